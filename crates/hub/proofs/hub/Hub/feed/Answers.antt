use Rattle.std.proofs.Common.{rules}
use Rattle.hub.proofs.hub.Hub.feed.Goals as goal

pub returns-in-Ok-clause-ok : goal.returns-in-Ok-clause-ok
returns-in-Ok-clause-ok g c = let fed = c.in-Ok.ensures.fed tt in search rules
