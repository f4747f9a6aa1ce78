use Rattle.std.proofs.Common.{◌≡◌, ◌-◌, length}
use Rattle.fsfs_nodes.specs.Changes.{changes_within}
use Rattle.fsfs_nodes.proofs.PartLoops.{changes_behind}
use Rattle.fsfs_nodes.proofs.change.read_changes.Given as goal

abbrev pub invariant-loop : goal.invariant-loop
invariant-loop l = changes_behind l.changes.items (changes_within (length l.bytes - l.counter) l.rest) ≡ changes_within (length l.bytes) l.bytes
