-- By induction on the item.
use Rattle.items.proofs.Wrote.{written}
use Rattle.items.proofs.laws.written_is_spelled.Goals as goal

pub returns : goal.returns
returns c = written
