use Rattle.history.proofs.Orders.{logs_are_right}
use Rattle.history.proofs.laws.logs_are_right.Goals as goal

pub returns : goal.returns
returns c = logs_are_right
