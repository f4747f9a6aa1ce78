use Rattle.filed_laws.proofs.Whole.{next_right}
use Rattle.filed_laws.proofs.again.what_is_laid_out_leaves_right_tables.Goals as goal

pub returns : goal.returns
returns c = λ r ids file after table right earlier facts laid small rows. next_right r ids file after table right earlier facts laid small rows
