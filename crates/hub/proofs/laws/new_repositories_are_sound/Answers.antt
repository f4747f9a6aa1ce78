use Rattle.hub.proofs.Trees.{opening_sound}
use Rattle.hub.proofs.laws.new_repositories_are_sound.Goals as goal

pub returns : goal.returns
returns c = opening_sound c.opening_is_a_tree.ensures c.opening_is_marked.ensures
