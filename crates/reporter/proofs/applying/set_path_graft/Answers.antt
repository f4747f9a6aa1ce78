use Rattle.reporter.proofs.Deciding.{all_trees_hold}
use Rattle.reporter.proofs.applying.set_path_graft.Goals as goal

pub has_place-requires : goal.has_place-requires
has_place-requires g c = all_trees_hold _ c.requires
