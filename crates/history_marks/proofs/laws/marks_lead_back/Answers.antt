use Rattle.history_marks.proofs.Settled.{lead_back}
use Rattle.history_marks.proofs.laws.marks_lead_back.Goals as goal

pub returns : goal.returns
returns c = lead_back
