use Rattle.std.proofs.Common.{sym}
use Rattle.revision_data.proofs.Noted.{settled_pruned, settled_kept}
use Rattle.revision_data.proofs.txn_changes.TxnChanges.settle.Goals as goal

pub returns-then-prunes : goal.returns-then-prunes
returns-then-prunes c = λ before prepared q.
    settled_pruned c.args.self.now before c.self.inside.changes.entries c.leave.new.changes.entries
    c.forget_beneath.new.changes.entries c.args.op.now c.args.note c.path_of.result.now
    c.path_of-then-prunes.result.now q c.path_of.ensures c.path_of-then-prunes.ensures
    c.self.view_is prepared (sym c.if-prunes.ensures) (c.leave.ensures q) (c.forget_beneath.ensures q)

pub returns-else-prunes : goal.returns-else-prunes
returns-else-prunes c = λ before prepared q.
    settled_kept c.args.self.now before c.self.inside.changes.entries c.leave.new.changes.entries
    c.args.op.now c.args.note c.path_of.result.now q c.path_of.ensures c.self.view_is prepared
    (sym c.if-prunes.ensures) (c.leave.ensures q)
