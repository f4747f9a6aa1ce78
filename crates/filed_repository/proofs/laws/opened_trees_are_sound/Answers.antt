use Rattle.std.proofs.Math.Logic.{∥∥₁_map}
use Rattle.shared_revisions.specs.Contents.{revisions_of}
use Rattle.filed_repository.proofs.Sound.{sound_there}
use Rattle.filed_repository.proofs.laws.opened_trees_are_sound.Goals as goal

pub returns : goal.returns
returns c =
    let world = c.args._filed.now.world in
    sound_there (revisions_of world.held.value) (∥∥₁_map world.sound (λ s. s.revisions))
