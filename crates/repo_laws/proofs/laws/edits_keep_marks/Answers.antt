use Rattle.repo_laws.proofs.Marking.{edit_marks}
use Rattle.repo_laws.proofs.laws.edits_keep_marks.Goals as goal

pub returns : goal.returns
returns c = edit_marks
