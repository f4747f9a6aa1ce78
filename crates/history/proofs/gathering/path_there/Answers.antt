use Rattle.std.proofs.Common.{◌≡◌, arith, None, sym, subst}
use Rattle.history.proofs.Steps.{is_past}
use Rattle.history.specs.Gathered.{path_from}
use Rattle.history.proofs.gathering.path_there.Goals as goal

pub returns-else-place-revision : goal.returns-else-place-revision
returns-else-place-revision c = λ h.
    subst (λ o. None ≡ path_from h o c.args.revision) (sym c.in-Some.is) (sym (is_past h c.args.revision c.in-Some.place (omega (rw c.in-Some.is at c.requires, c.if-place-revision.false, arith))))
