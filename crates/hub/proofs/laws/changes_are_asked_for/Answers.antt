use Rattle.hub.proofs.Owning.{event_does, run_does, calls_do}
use Rattle.hub.proofs.laws.changes_are_asked_for.Goals as goal

pub returns-clause-event : goal.returns-clause-event
returns-clause-event c = event_does (c.steps_keep_trees.ensures.step, c.steps_keep_trees.ensures.unreleased) c.commits_keep_both_sides.ensures.theirs c.commits_keep_both_sides.ensures.ours

pub returns-clause-events : goal.returns-clause-events
returns-clause-events c = run_does (c.steps_keep_trees.ensures.step, c.steps_keep_trees.ensures.unreleased) c.commits_keep_both_sides.ensures.theirs c.commits_keep_both_sides.ensures.ours

pub returns-clause-calls : goal.returns-clause-calls
returns-clause-calls c = calls_do (c.steps_keep_trees.ensures.step, c.steps_keep_trees.ensures.unreleased) c.commits_keep_both_sides.ensures.theirs c.commits_keep_both_sides.ensures.ours
