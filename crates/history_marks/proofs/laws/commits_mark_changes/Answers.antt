use Rattle.history_marks.proofs.Marked.{commit_marked}
use Rattle.history_marks.proofs.laws.commits_mark_changes.Goals as goal

pub returns : goal.returns
returns c = commit_marked
