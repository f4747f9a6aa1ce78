use Rattle.history_marks.proofs.Staying.{opening_sound, changed_sound}
use Rattle.history_marks.proofs.laws.repositories_stay_sound.Goals as goal

pub returns-clause-opens : goal.returns-clause-opens
returns-clause-opens c = opening_sound c.opening_is_a_tree.ensures

pub returns-clause-changes : goal.returns-clause-changes
returns-clause-changes c = changed_sound
