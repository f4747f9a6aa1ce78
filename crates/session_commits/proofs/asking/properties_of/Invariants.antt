use Rattle.std.proofs.Common.{◌≡◌, [], drop}
use Rattle.machine.specs.Commands.{set_all}
use Rattle.session_commits.proofs.asking.properties_of.Given as goal

abbrev pub invariant-loop-pair : goal.invariant-loop-pair
invariant-loop-pair l = set_all [] l.pairs ≡ set_all l.properties (drop l.pair-index l.pairs)
