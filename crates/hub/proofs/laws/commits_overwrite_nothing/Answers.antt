use Rattle.hub.proofs.Owning.{run_overwrites_nothing, calls_overwrite_nothing}
use Rattle.hub.proofs.laws.commits_overwrite_nothing.Goals as goal

pub returns : goal.returns
returns c = (
  λ old new env after event changes told done. done.sides,
  run_overwrites_nothing (c.steps_keep_trees.ensures.step, c.steps_keep_trees.ensures.unreleased),
  calls_overwrite_nothing (c.steps_keep_trees.ensures.step, c.steps_keep_trees.ensures.unreleased),
)
