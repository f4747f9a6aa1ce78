use Rattle.filed_laws.proofs.BlockOpening.{opening_right}
use Rattle.filed_laws.proofs.blocks.the_block_of_revision_0_is_right.Goals as goal

pub returns : goal.returns
returns c = λ r opening number changes. opening_right r opening number changes
