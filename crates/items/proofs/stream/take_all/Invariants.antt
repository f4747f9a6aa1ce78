use Rattle.std.proofs.Common.{length}
use Rattle.items.specs.Decoding.{TakesSome}
use Rattle.items.proofs.stream.take_all.Given as goal

abbrev pub invariant-taking : goal.invariant-taking
invariant-taking l = TakesSome l.initial.reader l.initial.items.items l.items.items l.reader

abbrev pub decreases-taking : goal.decreases-taking
decreases-taking l = length l.reader.rest
