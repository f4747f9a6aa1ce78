use Rattle.std.proofs.Common.{◌≡◌, ◌+◌, ◌≤◌, length, take}
use Rattle.std.specs.{FinMap.{from_entries, len}, Prelude.option_copied}
use Rattle.repo_api.specs.Locking.{after_release, released}
use Rattle.pathlocks.proofs.locks.Locks.release.Given as goal

-- the pairs so far are released, and there is room for the others
abbrev pub invariant-loop-pair : goal.invariant-loop-pair
invariant-loop-pair l =
    (l.self ≡ after_release (option_copied l.user) (take l.pair-index l.tokens) l.fn.self)
    × (from_entries l.taken.items ≡ released (option_copied l.user) (take l.pair-index l.tokens) l.fn.self)
    × (length l.taken.items + len l.self ≡ len l.fn.self)
    × (length l.taken.items ≤ l.pair-index)
    × (length l.tokens ≤ l.taken.cap)
