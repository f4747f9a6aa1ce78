use Rattle.std.proofs.Common.{ap, ◌∙◌}
use Rattle.std.specs.FinMap.{insert}
use Rattle.pathlocks.proofs.Maps.{inserted}
use Rattle.pathlocks.proofs.locks.Locks.put.Goals as goal

pub returns-clause-ok : goal.returns-clause-ok
returns-clause-ok c =
    inserted c.self.inside.locks.entries _ c.args.path c.args.lock c.in_ok-insert.ensures.updates.0
    ∙ ap (λ m. insert m c.args.path c.args.lock) c.self.view_is
