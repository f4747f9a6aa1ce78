use Rattle.std.proofs.Common.{arith, ap, sym, ◌∙◌}
use Rattle.repo_api.specs.Histories.{history_of}
use Rattle.history.specs.Locations.{location_back}
use Rattle.history.proofs.Steps.{is_past}
use Rattle.history.proofs.locating.location_back.Goals as goal

pub returns-in_default : goal.returns-in_default
returns-in_default g c =
    (rw c.in_default.is at c.in_ok-at.ensures.goes) c.args.revision (omega arith)
    ∙ ap (λ p. location_back (history_of (g.R.Repository.content c.args.repository.now)) (record { path = p; revision = c.args.place.now.revision }) c.args.revision) c.in_ok-clone.ensures.cases

pub returns-else-at-revision : goal.returns-else-at-revision
returns-else-at-revision g c =
    sym (is_past (history_of (g.R.Repository.content c.args.repository.now)) c.args.revision c.in-Some.at (omega (c.in_ok-at.ensures.within c.in-Some.at c.in-Some.is, c.if-at-revision.false, arith)))
    ∙ (rw c.in-Some.is at c.in_ok-at.ensures.goes) c.args.revision (omega arith)
    ∙ ap (λ p. location_back (history_of (g.R.Repository.content c.args.repository.now)) (record { path = p; revision = c.args.place.now.revision }) c.args.revision) c.in_ok-clone.ensures.cases
