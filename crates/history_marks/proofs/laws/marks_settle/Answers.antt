use Rattle.history_marks.proofs.Settling.{marks_settle, walked}
use Rattle.history_marks.proofs.laws.marks_settle.Goals as goal

pub returns-clause-quiet : goal.returns-clause-quiet
returns-clause-quiet c = marks_settle

pub returns-clause-walked : goal.returns-clause-walked
returns-clause-walked c = walked
