-- The text that an applier holds.
use Rattle.std.specs.{Prelude.{ℕ, List}, Arc.arc_value}
use Rattle.svndiff0.specs.{declared.target.Target.Target, declared.target.Target.TheVariants.{Growing, Shared}}

-- its bytes, whoever holds them
abbrev pub target_bytes : Target → List ℕ
target_bytes (Growing text) = text.items
target_bytes (Shared text) = (arc_value text).items
