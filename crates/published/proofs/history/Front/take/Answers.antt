use Rattle.published.proofs.Histories.{list_goes_on}
use Rattle.published.proofs.history.Front.take.Goals as goal

pub returns-clause-later : goal.returns-clause-later
returns-clause-later g c = rw c.again.ensures (list_goes_on c.args.self.now c.args.other.now c.requires c.is_shorter.ensures.histories.1 c.is_shorter.ensures.histories.0 (rw c.if-is_shorter.false at c.is_shorter.ensures.order))
