use Rattle.reporter.proofs.Deciding.{all_trees_hold}
use Rattle.reporter.proofs.applying.has_anchor.Goals as goal

pub has_directory-requires : goal.has_directory-requires
has_directory-requires g c = all_trees_hold _ c.requires
