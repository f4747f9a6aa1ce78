use Rattle.std.proofs.Common.{◌≡◌, drop}
use Rattle.machine.specs.Histories.{all_joined}
use Rattle.session_reads.proofs.Joined.{in_front}
use Rattle.session_reads.proofs.paths.all_joined.Given as goal

abbrev pub invariant-loop-path : goal.invariant-loop-path
invariant-loop-path l = all_joined l.base l.paths ≡ in_front l.joined.items (all_joined l.base (drop l.path-index l.paths))
