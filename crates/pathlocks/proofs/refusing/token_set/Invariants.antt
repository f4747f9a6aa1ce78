use Rattle.std.proofs.Common.{◌≡◌, ℕ, List, take}
use Rattle.pathlocks.specs.Handed.{is_lent}
use Rattle.repo_api.specs.Locking.{is_handed_in}
use Rattle.pathlocks.proofs.refusing.token_set.Given as goal

abbrev pub invariant-loop-pair : goal.invariant-loop-pair
invariant-loop-pair l = (token : List ℕ) → is_lent l.set.keys token ≡ is_handed_in (take l.pair-index l.tokens) token
