use Rattle.text_deltas.proofs.Alikes.{alike_fits}
use Rattle.text_deltas.proofs.shared.find_shared.Goals as goal

pub alike_behind-requires : goal.alike_behind-requires
alike_behind-requires c = rw c.alike-front.ensures (alike_fits _ _)
