-- What was found so far, and what is left, is all of it.
use Rattle.std.proofs.Common.{◌≡◌, ◌++◌}
use Rattle.std.specs.Prelude.{map}
use Rattle.file_histories.specs.Differing.{differing_of}
use Rattle.file_histories.proofs.differences.differing_of.Given as goal

abbrev pub invariant-loop-name : goal.invariant-loop-name
invariant-loop-name l =
    l.found ++ differing_of l.old l.new (map (λ p. p.0) l.name-iterator) ≡ differing_of l.old l.new (map (λ p. p.0) l.names)
