use Rattle.filed_laws.proofs.Deep.{right_path}
use Rattle.filed_laws.proofs.blocks.paths_of_blocks_are_right.Goals as goal

pub returns : goal.returns
returns c = λ past block changes keeps k node there. right_path past block changes keeps k node there
