-- Listings: entries by the bytes of their paths' texts.
-- `/a-b` stands before `/a/b` there, and behind it in a map.
use Rattle.std.specs.{Prelude.List, Cmp.IsTotalOrder, Cmp.Lexicographic.{slice_cmp, on_texts}, List.Sorted.{IsPermutation, IsSortedByKey}}
use Rattle.std.specs.{Ordering.{nat_cmp, is_lt}, declared.cmp.Ordering.Ordering}
use Rattle.std.proofs.lemmas.List.Sorted.{ranks_by}
use Rattle.svnpath.specs.{Paths.PathValue, Sorting.{sorted_by, sorted_by_permutation, sorted_by_sorted}, Texts.path_text}

-- two paths by the bytes of their texts
abbrev pub text_cmp : PathValue → PathValue → Ordering
text_cmp p q = slice_cmp nat_cmp (path_text p) (path_text q)

-- the entries in the order of their paths' texts; those of one text stay as they stood
abbrev pub listing : {V : Type 0} → List (PathValue × V) → List (PathValue × V)
listing = sorted_by (λ e f. is_lt (text_cmp e.0 f.0))

pub text_cmp_total : IsTotalOrder text_cmp
text_cmp_total = on_texts path_text

-- a listing has the same entries
pub listing_permutation : {V : Type 0} (entries : List (PathValue × V))
    → IsPermutation entries (listing entries)
listing_permutation = sorted_by_permutation (λ e f. is_lt (text_cmp e.0 f.0))

-- and is in the order of the texts
pub listing_sorted : {V : Type 0} (entries : List (PathValue × V))
    → IsSortedByKey (λ e. e.0) text_cmp (listing entries)
listing_sorted =
    sorted_by_sorted (λ e f. is_lt (text_cmp e.0 f.0)) (ranks_by text_cmp_total (λ e. e.0))
