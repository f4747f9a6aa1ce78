use Rattle.history_marks.proofs.Marked.{opening_marked}
use Rattle.history_marks.proofs.laws.new_repositories_are_marked.Goals as goal

pub returns : goal.returns
returns c = opening_marked
