use Rattle.std.proofs.Common.{ap, ◌∙◌}
use Rattle.revision_data.specs.Prepared.{change_after}
use Rattle.revision_data.proofs.Noted.{prepared}
use Rattle.revision_data.proofs.txn_changes.TxnChanges.prepare.Goals as goal

pub returns-clause-ok : goal.returns-clause-ok
returns-clause-ok c =
    prepared c.args.self.now c.self.inside.changes.entries c.put_placeholder.new.changes.entries
    c.args.op.now _ c.path_of-path.result.now c.path_of-path.ensures c.self.view_is
    (c.in_ok-change.ensures ∙ ap (change_after c.args.op.now) c.get.ensures.value)
    c.in_ok-made.ensures.made c.in_ok-made.ensures.ok
