use Rattle.std.proofs.Common.{sym, ap, ◌∙◌}
use Rattle.std.specs.FinMap.{len}
use Rattle.pathlocks.proofs.Maps.{len_of}
use Rattle.pathlocks.proofs.locks.Locks.count.Goals as goal

pub returns : goal.returns
returns c = c.len.ensures.len ∙ sym (len_of c.self.inside.locks.entries c.len.ensures.ordered) ∙ ap len c.self.view_is
