use Rattle.std.proofs.Common.{◌≡◌, map, drop}
use Rattle.std.specs.{Map.Iter.deref_pair, Prelude.option_copied}
use Rattle.pathlocks.specs.Handed.{is_lent}
use Rattle.repo_api.specs.Locking.{first_refusing}
use Rattle.pathlocks.proofs.refusing.first_refusing.Given as goal

-- none so far refuses
abbrev pub invariant-loop-pair : goal.invariant-loop-pair
invariant-loop-pair l =
    first_refusing (option_copied l.user) (is_lent l.tokens.keys) (map deref_pair l.locks)
    ≡ first_refusing (option_copied l.user) (is_lent l.tokens.keys) (map deref_pair (drop l.pair-index l.locks))
