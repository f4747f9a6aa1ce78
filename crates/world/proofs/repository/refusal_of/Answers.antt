use Rattle.std.proofs.Common.{sym}
use Rattle.shared_revisions.specs.Contents.{held_state}
use Rattle.world.proofs.repository.refusal_of.Goals as goal

pub returns : goal.returns
returns c = c.property_refusal.ensures (held_state c.args.held.now) (sym c.youngest.ensures.is) (sym c.properties.ensures)
