use Rattle.std.proofs.Common.{◌≡◌, take}
use Rattle.std.specs.List.{filter}
use Rattle.mergeinfo.proofs.info.inheritable.Given as goal

abbrev pub invariant-loop-range : goal.invariant-loop-range
invariant-loop-range l = l.kept.items ≡ filter (λ range. range.is_inheritable) (take l.range-index l.ranges)
