use Rattle.filed_laws.proofs.WholeBlocks.{tabled_again}
use Rattle.filed_laws.proofs.blocks.what_is_laid_out_is_tabled.Goals as goal

pub returns : goal.returns
returns c = λ r ids file after table files blocks block lists list right lines facts block_right laid small rows all are listed.
    tabled_again r ids file after table files blocks block lists list right lines facts block_right laid small rows all are listed
