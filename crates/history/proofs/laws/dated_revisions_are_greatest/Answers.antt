use Rattle.history.proofs.OnTraces.{dated_is_greatest}
use Rattle.history.proofs.laws.dated_revisions_are_greatest.Goals as goal

pub returns : goal.returns
returns c = dated_is_greatest
