use Rattle.std.proofs.Common.{◌≡◌, ◌++◌, ◌∷◌, take}
use Rattle.std.specs.List.{flat_map}
use Rattle.mergeinfo.specs.Texts.{range_text}
use Rattle.mergeinfo.proofs.range.append_ranges.Given as goal

abbrev pub invariant-loop-range : goal.invariant-loop-range
invariant-loop-range l = l.out.items ≡ l.initial.out.items ++ flat_map (λ range. 44 ∷ range_text range) (take l.range-index l.others)
