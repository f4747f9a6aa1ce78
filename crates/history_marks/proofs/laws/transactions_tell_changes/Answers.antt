use Rattle.history_marks.proofs.Told.{begun_told, edited_told}
use Rattle.history_marks.proofs.laws.transactions_tell_changes.Goals as goal

pub returns-clause-begins : goal.returns-clause-begins
returns-clause-begins c = begun_told

pub returns-clause-edits : goal.returns-clause-edits
returns-clause-edits c = edited_told
