-- They rise all where the last one and those that are left do.
use Rattle.std.specs.{Cmp.Lexicographic.slice_cmp, List.Sorted.IsStrictlySortedBy, Map.keys_of, Ordering.nat_cmp, Prelude.option_copied}
use Rattle.filed_writing.proofs.Rising.{Rises}
use Rattle.filed_writing.proofs.rules.names_rise.Given as goal

abbrev pub invariant-loop-name : goal.invariant-loop-name
invariant-loop-name l =
    (IsStrictlySortedBy (slice_cmp nat_cmp) (keys_of l.properties) → Rises (option_copied l.last) l.name-iterator)
    × (Rises (option_copied l.last) l.name-iterator → IsStrictlySortedBy (slice_cmp nat_cmp) (keys_of l.properties))
