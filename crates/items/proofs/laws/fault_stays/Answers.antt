-- The bytes up to there stay the same.
use Rattle.items.proofs.Faults.{stays}
use Rattle.items.proofs.laws.fault_stays.Goals as goal

pub returns : goal.returns
returns c = stays
