-- The lines of a text, one by one.
use Rattle.std.proofs.{Common.{◌≡◌, ℕ, ◌<◌, ◌==◌, Bool, List, [], ◌∷◌, length, refl, ap, ◌∙◌, arith}, lemmas.Bool.Decides.nat_tests}
use Rattle.std.proofs.{lemmas.List.Sums.fails_before_first, lemmas.List.Splits.{slice_split_first, slice_split_none, length-slice_split}}
use Rattle.std.specs.{List.{slice_split, before_first, after_first}, Str.Lines.{lines, lines_of_parts, strip_carriage_return}}
use Rattle.cram.specs.Parts.{IsWithout, IsSplitAtFirst}

lines_of_parts-more : (part : List ℕ) (parts : List (List ℕ)) → 0 < length parts → lines_of_parts (part ∷ parts) ≡ strip_carriage_return part ∷ lines_of_parts parts
lines_of_parts-more part [] h = absurd (omega arith)
lines_of_parts-more part (next ∷ parts) h = refl

-- the first line ends with a line feed
pub lines_first : (bytes line rest : List ℕ) → IsSplitAtFirst (λ b. b == 10) bytes line rest → lines bytes ≡ strip_carriage_return line ∷ lines rest
lines_first bytes line rest h =
    let is_end : ℕ → Bool = λ b. b == 10 in
    let parts = slice_split_first is_end bytes 0 h.within in
    let more = lines_of_parts-more (before_first is_end bytes) (slice_split is_end (after_first is_end bytes)) (omega (arith, length-slice_split is_end (after_first is_end bytes))) in
    rw (h.before_it, h.after_it) (ap lines_of_parts parts ∙ more)

-- there is no line feed
pub lines_only : (bytes : List ℕ) → IsWithout (λ b. b == 10) bytes → 0 < length bytes → lines bytes ≡ bytes ∷ []
lines_only bytes h some =
    let is_end : ℕ → Bool = λ b. b == 10 in
    let parts = slice_split_none is_end bytes (λ k d below. fails_before_first is_end bytes k d (omega arith)) in
    ap lines_of_parts parts ∙ grind (arith, nat_tests)
