use Rattle.machine.proofs.Sound.{keeps_editing, keeps_rests, keeps_unreleased}
use Rattle.machine.proofs.laws.steps_keep_trees.Goals as goal

pub returns-clause-step : goal.returns-clause-step
returns-clause-step c = keeps_rests c.edits_keep_trees.ensures.begins c.edits_keep_trees.ensures.goes_on c.accepted_commits_meet_well.ensures c.commits_keep_both_sides.ensures.tree c.commits_keep_both_sides.ensures.marks

pub returns-clause-unreleased : goal.returns-clause-unreleased
returns-clause-unreleased c = keeps_unreleased c.edits_keep_trees.ensures.begins c.edits_keep_trees.ensures.goes_on c.accepted_commits_meet_well.ensures c.commits_keep_both_sides.ensures.tree c.commits_keep_both_sides.ensures.marks

pub returns-clause-read : goal.returns-clause-read
returns-clause-read c = keeps_editing c.edits_keep_trees.ensures.begins c.edits_keep_trees.ensures.goes_on c.accepted_commits_meet_well.ensures c.commits_keep_both_sides.ensures.tree c.commits_keep_both_sides.ensures.marks
