use Rattle.hub.specs.SessionLaws.{yields_more}
use Rattle.hub.proofs.laws.cut_anywhere.Goals as goal

pub returns : goal.returns
returns c = yields_more
