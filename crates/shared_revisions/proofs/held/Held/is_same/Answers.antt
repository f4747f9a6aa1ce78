use Rattle.std.proofs.Common.{sym, ◌∙◌}
use Rattle.shared_revisions.proofs.Seen.{same_held}
use Rattle.shared_revisions.proofs.held.Held.is_same.Goals as goal

pub returns : goal.returns
returns c = λ is.
    same_held c.args.self.now c.args.revision c.args.other c.args.path.now c.args.other_path.now
    (sym c.find.ensures ∙ c.is_one.ensures is ∙ c.find-2.ensures)
