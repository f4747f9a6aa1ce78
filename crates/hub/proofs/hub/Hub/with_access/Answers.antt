use Rattle.std.proofs.Common.{ℕ, List, ap, subst, sym}
use Rattle.machine.specs.Stages.{SessionState}
use Rattle.hub.specs.State.{AllOpen, HasTrees, hub_at}
use Rattle.hub.proofs.hub.Hub.with_access.Goals as goal

pub returns : goal.returns
returns g c =
    ap (λ (xs : List (ℕ × SessionState)). hub_at c.args.options (g.A.RepoAccess.point c.args.access) xs 0) c.new.ensures.items

pub invariant_of-result : goal.invariant_of-result
invariant_of-result g c =
    subst (λ (xs : List (ℕ × SessionState)). AllOpen xs × HasTrees (hub_at c.args.options (g.A.RepoAccess.point c.args.access) xs 0))
    (sym c.new.ensures.items) (tt, record { revisions = c.requires; edits = tt; rests = tt })
