use Rattle.filed_laws.proofs.Judged.{judged_right}
use Rattle.filed_laws.proofs.judging.what_is_laid_out_is_judged_right.Goals as goal

pub returns : goal.returns
returns c = λ r ids file after right lines facts sources laid small. judged_right r ids file after right lines facts sources laid small
