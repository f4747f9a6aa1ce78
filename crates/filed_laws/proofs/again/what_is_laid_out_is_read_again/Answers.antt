use Rattle.filed_laws.proofs.Whole.{read_again}
use Rattle.filed_laws.proofs.again.what_is_laid_out_is_read_again.Goals as goal

pub returns : goal.returns
returns c = λ r ids file after right earlier facts laid small. read_again r ids file after right earlier facts laid small
