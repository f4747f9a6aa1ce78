use Rattle.std.proofs.Common.{ap}
use Rattle.svndiff0.specs.Document.{opening, header_at}
use Rattle.svndiff0.proofs.applier.Applier.new.Goals as goal

pub returns-clause-reading : goal.returns-clause-reading
unfolding header_at
returns-clause-reading c = ap opening c.new-2.ensures.items
