-- The scan of the stream stops at one byte, in one way.
use Rattle.items.proofs.Faults.{one_place, some_kind, one_kind}
use Rattle.items.proofs.laws.one_fault.Goals as goal

pub returns : goal.returns
returns c = record { place = one_place; some_kind = some_kind; one_kind = one_kind }
