use Rattle.std.proofs.Common.{◌≡◌, drop}
use Rattle.machine.specs.Commands.{lock_tokens}
use Rattle.session_commits.proofs.Gathered.{in_front}
use Rattle.session_commits.proofs.asking.lock_tokens.Given as goal

abbrev pub invariant-loop-pair : goal.invariant-loop-pair
invariant-loop-pair l = lock_tokens l.base l.pairs ≡ in_front l.tokens (lock_tokens l.base (drop l.pair-index l.pairs))
