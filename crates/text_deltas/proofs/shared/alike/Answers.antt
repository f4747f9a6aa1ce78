use Rattle.text_deltas.proofs.Alikes.{alike_end_right}
use Rattle.text_deltas.proofs.shared.alike.Goals as goal

pub returns-else-count-text : goal.returns-else-count-text
returns-else-count-text c = alike_end_right _ _ _ _ c.if-count-text.false c.loop-count.invariant
