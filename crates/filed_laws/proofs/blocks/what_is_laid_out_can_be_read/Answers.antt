use Rattle.filed_laws.proofs.WholeBlocks.{readable_again}
use Rattle.filed_laws.proofs.blocks.what_is_laid_out_can_be_read.Goals as goal

pub returns : goal.returns
returns c = λ r ids file after files blocks block lists list table right lines facts block_right laid small rows all are listed.
    readable_again r ids file after files blocks block lists list table right lines facts block_right laid small rows all are listed
