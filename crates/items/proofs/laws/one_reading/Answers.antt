-- The builder reads each item from its front, so no two readings differ.
use Rattle.items.proofs.Unique.{one_item}
use Rattle.items.proofs.laws.one_reading.Goals as goal

pub returns : goal.returns
returns c = one_item
