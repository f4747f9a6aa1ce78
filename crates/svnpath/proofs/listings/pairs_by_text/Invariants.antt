use Rattle.std.proofs.Common.{◌≡◌, map, take}
use Rattle.std.specs.Map.Iter.{deref_pair}
use Rattle.svnpath.proofs.listings.pairs_by_text.Given as goal

-- what is listed are the entries so far
abbrev pub invariant-loop-path : goal.invariant-loop-path
invariant-loop-path g l = map deref_pair l.listed.items ≡ take l.path-index l.entries
