-- The item that is read is the one that the bytes spell.
use Rattle.items.specs.View.{value_of}
use Rattle.items.proofs.Fronts.{built}
use Rattle.items.proofs.build.build.Goals as goal

pub returns : goal.returns
returns c = built c.args.bytes.now c.requires.0 (value_of c.in_ok-item.item) c.in_ok-item.field-0-1.now c.requires.1 c.in_ok-item.ensures
