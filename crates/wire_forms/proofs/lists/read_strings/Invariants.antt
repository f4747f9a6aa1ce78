use Rattle.std.proofs.Common.{◌≡◌, ◌++◌, drop}
use Rattle.std.specs.Prelude.{option_map}
use Rattle.items.specs.View.{values_of}
use Rattle.wire_forms.specs.Forms.{strings}
use Rattle.wire_forms.proofs.lists.read_strings.Given as goal

abbrev pub invariant-loop-item : goal.invariant-loop-item
invariant-loop-item l = strings (values_of l.items) ≡ option_map (λ ss. l.strings ++ ss) (strings (values_of (drop l.item-index l.items)))
