use Rattle.pathlocks.proofs.Changing.{tokens_stay}
use Rattle.pathlocks.proofs.laws.tokens_stay_distinct.Goals as goal

pub returns : goal.returns
returns c = tokens_stay
