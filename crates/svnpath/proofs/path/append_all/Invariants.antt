use Rattle.std.proofs.Common.{◌≡◌, ◌++◌, take}
use Rattle.svnpath.proofs.path.append_all.Given as goal

-- what is there is what was there, and the items so far
abbrev pub invariant-loop-item : goal.invariant-loop-item
invariant-loop-item l = l.to.items ≡ l.initial.to.items ++ take l.item-index l.items
