use Rattle.std.proofs.Common.{sym, ap, ◌∙◌}
use Rattle.std.specs.Prelude.{option_copied}
use Rattle.shared_revisions.proofs.Seen.{held_changes, held_no_changes}
use Rattle.shared_revisions.proofs.held.Held.changes.Goals as goal

pub returns-in-Some : goal.returns-in-Some
returns-in-Some c =
    c.as_slice.ensures
    ∙ sym (held_changes c.args.self.now c.args.revision c.in-Some.changes.now
    (sym c.get.ensures ∙ ap option_copied c.in-Some.is))

pub returns-in-None : goal.returns-in-None
returns-in-None c =
    sym (held_no_changes c.args.self.now c.args.revision
    (sym c.get.ensures ∙ ap option_copied c.in-None.is))
