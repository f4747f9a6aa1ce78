use Rattle.history_marks.proofs.Staying.{begun_sound, edited_sound}
use Rattle.history_marks.proofs.laws.transactions_stay_sound.Goals as goal

pub returns-clause-begins : goal.returns-clause-begins
returns-clause-begins c = begun_sound c.beginnings_are_trees.ensures

pub returns-clause-edits : goal.returns-clause-edits
returns-clause-edits c = edited_sound
