use Rattle.std.proofs.Common.{◌≡◌, take}
use Rattle.flat_commits.specs.Contents.{values}
use Rattle.flat_commits.proofs.revisions.shared.Given as goal

abbrev pub invariant-loop-item : goal.invariant-loop-item
invariant-loop-item g l = values l.list.items ≡ values (take l.item-index l.items)
