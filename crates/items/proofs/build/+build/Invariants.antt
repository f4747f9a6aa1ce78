use Rattle.std.proofs.Common.{◌≡◌, ◌+◌, ◌*◌, ◌-◌, length}
use Rattle.items.specs.Build.{read, row_with}
use Rattle.items.proofs.Turns.{before}
use Rattle.items.proofs.build.+build.Given as goal

abbrev pub decreases-read_item : goal.decreases-read_item
decreases-read_item l = 2 * l.depth + 1

abbrev pub decreases-read_row : goal.decreases-read_row
decreases-read_row l = 2 * l.depth

abbrev pub invariant-read_row-loop-turn : goal.invariant-read_row-loop-turn
invariant-read_row-loop-turn l = row_with (read (l.depth - 1)) (length l.bytes) l.bytes ≡ before l.items.items (row_with (read (l.depth - 1)) (length l.bytes - l.turn) l.rest)
