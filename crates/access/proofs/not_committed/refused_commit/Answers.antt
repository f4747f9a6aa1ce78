use Rattle.std.proofs.Common.{inl, inr, refl}
use Rattle.access.proofs.not_committed.refused_commit.Goals as goal

pub returns-in-Ok-clause-fault : goal.returns-in-Ok-clause-fault
returns-in-Ok-clause-fault g c = rw c.in-Refused.is (inl refl)

pub returns-in-Ok-clause-path : goal.returns-in-Ok-clause-path
returns-in-Ok-clause-path g c = rw c.in-Refused.is c.in-Ok.ensures

pub returns-in-Err-clause-fault : goal.returns-in-Err-clause-fault
returns-in-Err-clause-fault g c = rw c.in-Refused.is (inr refl)
