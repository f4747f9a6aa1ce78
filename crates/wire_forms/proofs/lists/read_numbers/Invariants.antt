use Rattle.std.proofs.Common.{◌≡◌, ◌++◌, drop}
use Rattle.std.specs.Prelude.{option_map}
use Rattle.items.specs.View.{values_of}
use Rattle.wire_forms.specs.Forms.{numbers}
use Rattle.wire_forms.proofs.lists.read_numbers.Given as goal

abbrev pub invariant-loop-item : goal.invariant-loop-item
invariant-loop-item l = numbers (values_of l.items) ≡ option_map (λ ns. l.numbers ++ ns) (numbers (values_of (drop l.item-index l.items)))
