use Rattle.std.proofs.Common.{refl}
use Rattle.repo_api.specs.Opening.{new_repository}
use Rattle.hub.proofs.laws.new_trees_are_trees.Goals as goal

pub returns-clause-of_new : goal.returns-clause-of_new
returns-clause-of_new c = λ settings uuid date. record {
  revisions = c.new_repositories_are_sound.ensures (new_repository uuid date) uuid date refl;
  edits = tt;
  rests = tt;
}

pub returns-clause-of_sound : goal.returns-clause-of_sound
returns-clause-of_sound c = λ settings point sound. record { revisions = sound; edits = tt; rests = tt }
