use Rattle.std.proofs.Common.{ap, ◌∙◌}
use Rattle.std.specs.FinMap.{empty}
use Rattle.flat_commits.specs.Whole.{state_of, with_locks}
use Rattle.flatrepo.proofs.flat_repo.FlatRepo.new.Goals as goal

pub returns : goal.returns
returns c = (
  c.in_ok-date.date,
  c.in_ok-date.ensures,
  (λ i. state_of (c.in_ok-new.ensures.ok i) ((c.in_ok-new-2.ensures.ok ∙ c.new-2.ensures) i))
      ∙ ap (λ s. with_locks s empty) c.in_ok-content.ensures,
)
