use Rattle.repo_laws.proofs.Marking.{merge_marks}
use Rattle.repo_laws.proofs.laws.merges_keep_marks.Goals as goal

pub returns : goal.returns
returns c = merge_marks
