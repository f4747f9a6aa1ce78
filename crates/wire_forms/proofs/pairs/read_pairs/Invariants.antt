use Rattle.std.proofs.Common.{◌≡◌, ◌++◌, drop}
use Rattle.std.specs.Prelude.{option_map}
use Rattle.items.specs.View.{values_of}
use Rattle.wire_forms.specs.Forms.{pairs}
use Rattle.wire_forms.proofs.pairs.read_pairs.Given as goal

abbrev pub invariant-loop-item : goal.invariant-loop-item
invariant-loop-item l = pairs (values_of l.items) ≡ option_map (λ ps. l.pairs ++ ps) (pairs (values_of (drop l.item-index l.items)))
