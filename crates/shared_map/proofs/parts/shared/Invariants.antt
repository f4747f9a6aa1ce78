use Rattle.std.proofs.Common.{◌≡◌, take}
use Rattle.shared_map.specs.Entries.{values}
use Rattle.shared_map.proofs.parts.shared.Given as goal

abbrev pub invariant-loop-part : goal.invariant-loop-part
invariant-loop-part g l = values l.list.items ≡ values (take l.part-index l.parts)
