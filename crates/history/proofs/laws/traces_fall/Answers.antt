use Rattle.history.proofs.Orders.{traces_fall}
use Rattle.history.proofs.laws.traces_fall.Goals as goal

pub returns : goal.returns
returns c = traces_fall
