use Rattle.std.proofs.Common.{◌≡◌, length}
use Rattle.std.specs.{Cmp.Lexicographic.slice_cmp, Ordering.nat_cmp}
use Rattle.svnpath.specs.Texts.{text_from}
use Rattle.svnpath.proofs.listings.compare_texts.Given as goal

-- the texts compare as what is left of them
abbrev pub invariant-loop-byte : goal.invariant-loop-byte
invariant-loop-byte l =
    slice_cmp nat_cmp (text_from l.mine l.my_others) (text_from l.theirs l.their_others)
    ≡ slice_cmp nat_cmp (text_from l.my_front l.my_rest) (text_from l.their_front l.their_rest)

abbrev pub decreases-loop-byte : goal.decreases-loop-byte
decreases-loop-byte l = length (text_from l.my_front l.my_rest)
