-- The text of a file, which may be shared.
use Rattle.std.specs.{Prelude.{ℕ, List, [], Option, Some, None}, Arc.arc_value, declared.sync.Arc.Arc, declared.vec.Vec.Vec}

abbrev pub shared_text : {Y Z : Type 0} → Option (Arc (Vec ℕ Y) Z) → List ℕ
shared_text None = []
shared_text (Some shared) = (arc_value shared).items
