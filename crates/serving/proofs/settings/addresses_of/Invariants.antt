-- Those so far are read.
use Rattle.std.specs.Prelude.{map, string_bytes, take}
use Rattle.serving.specs.Asked.{AreSocketTexts}
use Rattle.serving.proofs.settings.addresses_of.Given as goal

abbrev pub invariant-loop-place : goal.invariant-loop-place
invariant-loop-place l = AreSocketTexts (map string_bytes (take l.place l.listen)) l.addresses.items
