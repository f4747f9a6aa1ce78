use Rattle.filed_trees.proofs.Seen.{none_tabled}
use Rattle.filed_trees.proofs.laws.nothing_is_tabled.Goals as goal

pub returns : goal.returns
returns c = none_tabled
