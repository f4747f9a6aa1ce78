use Rattle.repo_laws.proofs.Revisions.{committed_tree, committed_marked, commit_keeps_theirs, commit_keeps_ours}
use Rattle.repo_laws.proofs.laws.commits_keep_both_sides.Goals as goal

pub returns-clause-tree : goal.returns-clause-tree
returns-clause-tree c = committed_tree

pub returns-clause-marks : goal.returns-clause-marks
returns-clause-marks c = committed_marked

pub returns-clause-theirs : goal.returns-clause-theirs
returns-clause-theirs c = commit_keeps_theirs

pub returns-clause-ours : goal.returns-clause-ours
returns-clause-ours c = commit_keeps_ours
