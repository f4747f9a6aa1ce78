use Rattle.drive_sides.proofs.Naming.{ordered_distinct}
use Rattle.drive_sides.proofs.names.children_of.Goals as goal

pub returns-clause-distinct : goal.returns-clause-distinct
returns-clause-distinct c = ordered_distinct c.args.names.keys c.into_iter-name-iterator.ensures.into_iter_gives.4
