use Rattle.std.proofs.Common.{◌≡◌, take}
use Rattle.pvec.specs.Parts.{values}
use Rattle.pvec.proofs.parts.with_one_more.Given as goal

abbrev pub invariant-loop-part : goal.invariant-loop-part
invariant-loop-part g l = values l.list.items ≡ values (take l.part-index l.parts)
