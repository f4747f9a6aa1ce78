use Rattle.published.proofs.Commits.{commit_right}
use Rattle.published.proofs.laws.commits_are_right.Goals as goal

pub returns : goal.returns
returns c = commit_right c.accepted_commits_meet_well.ensures c.commits_keep_both_sides.ensures.tree c.commits_keep_both_sides.ensures.marks
