-- Sources have one normal form.
use Rattle.std.proofs.Common.{◌≡◌, ◌⊎◌, ℕ, zero, suc, ◌+◌, ◌<◌, ◌≤◌, ◌==◌, max, Bool, true, false, cond, ◌&&◌, ◌||◌, List, [], ◌∷◌, length, map, refl, sym, ap}
use Rattle.std.proofs.Common.{◌∙◌, arith, inl, inr}
use Rattle.std.proofs.lemmas.Bool.{false≢true, and_from, and_parts, cases_lt, eq-eqb, ne_eqb, le-leb, leb-true, lt-ltb, or_left, or_right}
use Rattle.std.proofs.{lemmas.List.Elements.{All-head, All-tail}, lemmas.List.Kept.IsStrictlySortedBy-filter, lemmas.Map.Keys.{sorted_head, sorted_tail}}
use Rattle.std.specs.{Prelude.{nat_le, nat_lt}, List.{All, AllByRecursion, filter, list_any}, List.Sorted.IsStrictlySortedBy, Ordering.is_eq}
use Rattle.std.specs.declared.cmp.Ordering.TheVariants.{Less}
use Rattle.svnpath.specs.{Paths.{PathValue, path_cmp, path_cmp_total, path_cmp-IsAntisymmetric, path_ties, same_path}, PathLaws.{same_path_is, same_path_refl}}
use Rattle.mergeinfo.specs.{Ranges.{covers, has, has_inheritable, same_kind, AreInOrder, IsBelowFirst}, Sweeps.end_of}
use Rattle.mergeinfo.specs.Sources.{SourceValue, merges, merges_inheritably, IsNormalFormOf}
use Rattle.mergeinfo.specs.{Normal.{in_front, normal_form, normal_source, paths_in_order, ranges_end, ranges_from, revisions_end}, declared.range.Range.Range}
use Rattle.mergeinfo.proofs.{Gathering.{any_at, same_path_sym}, Ordered.{insert_sorted, one_order}}
use Rattle.mergeinfo.proofs.{PathSets.{among_filtered, and_none, is_among, path_inserted}, Pushes.{same_kind_is, same_kind_refl}, Rights.first_forward}
use Rattle.mergeinfo.proofs.Sweeping.{and_true, covers_before, covers_past, covers_within, first_before_end, or_false}

-- ---- ranges from a revision on

-- the first of the ranges does not begin before
abbrev pub IsFrom : ℕ → List Range → Type 0
IsFrom revision [] = Unit {0}
IsFrom revision (x ∷ xs) = revision ≤ x.first

pub from_less : (n m : ℕ) (xs : List Range) → n ≤ m → IsFrom m xs → IsFrom n xs
from_less n m [] le h = tt
from_less n m (x ∷ xs) le h = omega (arith, le, h)

tail_from : (x : Range) (xs : List Range) → IsBelowFirst x xs → IsFrom (x.last + 1) xs
tail_from x [] h = tt
tail_from x (y ∷ ys) h = omega (arith, h.apart)

tail_end : (x : Range) (xs : List Range) (n : ℕ) → end_of (x ∷ xs) ≤ n → end_of xs ≤ n
tail_end x [] n h = omega arith
tail_end x (y ∷ ys) n h = h

none_before : (p : Range → Bool) (r : ℕ) → ((x : Range) → r < x.first → p x ≡ false) → (xs : List Range) → AreInOrder xs → IsFrom (r + 1) xs → list_any p xs ≡ false
none_before p r before [] order from = refl
none_before p r before (x ∷ xs) order from =
    let forward : x.first ≤ x.last = first_forward x xs order.0 in
    ap (λ t. t || list_any p xs) (before x (omega (arith, from)))
    ∙ none_before p r before xs order.1 (from_less (r + 1) (x.last + 1) xs (omega (arith, from, forward)) (tail_from x xs order.0))

pub not_inheritably : (r : ℕ) (x : Range) → covers r x ≡ false → (x.is_inheritable && covers r x) ≡ false
not_inheritably r x none = ap (λ t. x.is_inheritable && t) none ∙ and_none x.is_inheritable

pub has_before : (r : ℕ) (xs : List Range) → AreInOrder xs → IsFrom (r + 1) xs → has r xs ≡ false
has_before r xs = none_before (covers r) r (covers_before r) xs

pub has_inheritable_before : (r : ℕ) (xs : List Range) → AreInOrder xs → IsFrom (r + 1) xs → has_inheritable r xs ≡ false
has_inheritable_before r xs = none_before (λ x. x.is_inheritable && covers r x) r (λ x lt. not_inheritably r x (covers_before r x lt)) xs

abbrev pub between : ℕ → ℕ → Bool → Range
between first last kind = record { first = first; last = last; is_inheritable = kind }

-- a range without its first revision
abbrev pub shorter : Range → Range
shorter x = between (x.first + 1) x.last x.is_inheritable

shorter_order : (x : Range) (xs : List Range) → x.first < x.last → AreInOrder (x ∷ xs) → AreInOrder (shorter x ∷ xs)
shorter_order x [] lt h = (omega (arith, lt), tt)
shorter_order x (y ∷ ys) lt h = (record { forward = omega (arith, lt); apart = h.0.apart; maximal = h.0.maximal }, h.1)

shorter_end : (x : Range) (xs : List Range) → end_of (shorter x ∷ xs) ≡ end_of (x ∷ xs)
shorter_end x [] = refl
shorter_end x (y ∷ ys) = refl

shorter_covers : (r : ℕ) (x : Range) → x.first + 1 ≤ r → covers r x ≡ covers r (shorter x)
shorter_covers r x le =
    ap (λ t. t && nat_le r x.last) (le-leb x.first r (omega (arith, le)) ∙ sym (le-leb (x.first + 1) r le))

-- with its first revision it is whole again
whole_again : (n : ℕ) (k : Bool) (x : Range) (xs : List Range) → n ≡ x.first → k ≡ x.is_inheritable → in_front n k (shorter x ∷ xs) ≡ x ∷ xs
whole_again n k x xs at kind =
    ap (λ t. cond t (between n x.last k ∷ xs) (between n n k ∷ shorter x ∷ xs))
    (and_from (same_kind k x.is_inheritable) (n + 1 == x.first + 1) (same_kind_refl k x.is_inheritable kind) (eq-eqb (n + 1) (x.first + 1) (omega (arith, at))))
    ∙ (λ i. between (at i) x.last (kind i) ∷ xs)

-- a range of one revision is not joined to the next
one_alone : (n : ℕ) (k : Bool) (x : Range) (xs : List Range) → n ≡ x.first → n ≡ x.last → k ≡ x.is_inheritable → IsBelowFirst x xs → in_front n k xs ≡ x ∷ xs
one_alone n k x [] at end kind below = λ i. between (at i) (end i) (kind i) ∷ []
one_alone n k x (y ∷ ys) at end kind below =
    ap (λ t. cond t (between n y.last k ∷ ys) (between n n k ∷ y ∷ ys)) (by (same_kind k y.is_inheritable) refl)
    ∙ (λ i. between (at i) (end i) (kind i) ∷ y ∷ ys)
  where
    by : (b : Bool) → same_kind k y.is_inheritable ≡ b → (b && (n + 1 == y.first)) ≡ false
    by false e = refl
    by true e =
        let far : x.last + 1 < y.first = below.maximal (sym kind ∙ same_kind_is k y.is_inheritable e) in
        ne_eqb (n + 1) y.first (λ next. omega (arith, far, next, end))

-- what is merged from a revision on is that of the ranges
pub record IsOf (n : ℕ) (is_merged is_inheritable : ℕ → Bool) (xs : List Range) : Type 0 where
  pub same : (r : ℕ) → n ≤ r → is_merged r ≡ has r xs
  pub same_inheritable : (r : ℕ) → n ≤ r → is_inheritable r ≡ has_inheritable r xs

abbrev turn : (is_merged is_inheritable : ℕ → Bool) → ℕ → ℕ → Bool → List Range
turn f g count n merged =
    cond merged (in_front n (g n) (ranges_from f g count (n + 1))) (ranges_from f g count (n + 1))

-- the ranges of so many revisions are found from this one on
abbrev AreFound : (is_merged is_inheritable : ℕ → Bool) → ℕ → ℕ → Type 0
AreFound f g count n =
    (xs : List Range) → AreInOrder xs → IsFrom n xs → end_of xs ≤ n + count → IsOf n f g xs → ranges_from f g count n ≡ xs

later : (f g : ℕ → Bool) (n : ℕ) (xs : List Range) → IsOf n f g xs → IsOf (n + 1) f g xs
later f g n xs is = record {
  same = λ r le. is.same r (omega (arith, le));
  same_inheritable = λ r le. is.same_inheritable r (omega (arith, le));
}

-- the first range begins here
first_found : (f g : ℕ → Bool) (count n : ℕ) (x : Range) (xs : List Range) → AreFound f g count (n + 1) → AreInOrder (x ∷ xs) → n ≡ x.first → end_of (x ∷ xs) ≤ n + suc count → IsOf n f g (x ∷ xs)
    → turn f g count n (f n) ≡ x ∷ xs
first_found f g count n x xs deeper order at ends is =
    ap (turn f g count n) (is.same n (omega arith) ∙ or_left (covers n x) (has n xs) covered) ∙ by (cases_lt n x.last)
  where
    forward : x.first ≤ x.last
    forward = first_forward x xs order.0

    covered : covers n x ≡ true
    covered = covers_within n x (omega (arith, at)) (omega (arith, at, forward))

    after : IsFrom (n + 1) xs
    after = from_less (n + 1) (x.last + 1) xs (omega (arith, at, forward)) (tail_from x xs order.0)

    kind : g n ≡ x.is_inheritable
    kind =
        is.same_inheritable n (omega arith)
        ∙ ap (λ t. (x.is_inheritable && t) || has_inheritable n xs) covered
        ∙ ap (λ t. t || has_inheritable n xs) (and_true x.is_inheritable)
        ∙ ap (λ t. x.is_inheritable || t) (has_inheritable_before n xs order.1 after)
        ∙ or_false x.is_inheritable

    by : (n < x.last) ⊎ (x.last ≤ n) → in_front n (g n) (ranges_from f g count (n + 1)) ≡ x ∷ xs
    by (inl lt) =
        ap (in_front n (g n)) (deeper (shorter x ∷ xs) (shorter_order x xs (omega (arith, at, lt)) order) (omega (arith, at))
        (omega (arith, ends, shorter_end x xs)) (record {
          same = λ r le.
              is.same r (omega (arith, le)) ∙ ap (λ t. t || has r xs) (shorter_covers r x (omega (arith, le, at)));
          same_inheritable = λ r le.
              is.same_inheritable r (omega (arith, le))
              ∙ ap (λ t. (x.is_inheritable && t) || has_inheritable r xs) (shorter_covers r x (omega (arith, le, at)));
        }))
        ∙ whole_again n (g n) x xs at kind
    by (inr ge) =
        ap (in_front n (g n)) (deeper xs order.1 after (tail_end x xs (n + 1 + count) (omega (arith, ends))) (record {
          same = λ r le.
              is.same r (omega (arith, le)) ∙ ap (λ t. t || has r xs) (covers_past r x (omega (arith, le, ge)));
          same_inheritable = λ r le.
              is.same_inheritable r (omega (arith, le))
              ∙ ap (λ t. t || has_inheritable r xs) (not_inheritably r x (covers_past r x (omega (arith, le, ge))));
        }))
        ∙ one_alone n (g n) x xs at (omega (arith, at, forward, ge)) kind order.0

ranges_found : (f g : ℕ → Bool) (count n : ℕ) → AreFound f g count (n + 1) → AreFound f g (suc count) n
ranges_found f g count n deeper [] order from ends is =
    ap (turn f g count n) (is.same n (omega arith)) ∙ deeper [] tt tt (omega arith) (later f g n [] is)
ranges_found f g count n deeper (x ∷ xs) order from ends is = elim (cases_lt n x.first) [
  | inl lt ↦
      ap (turn f g count n) (is.same n (omega arith) ∙ has_before n (x ∷ xs) order (omega (arith, lt)))
      ∙ deeper (x ∷ xs) order (omega (arith, lt)) (omega (arith, ends)) (later f g n (x ∷ xs) is)
  | inr ge ↦ first_found f g count n x xs deeper order (omega (arith, from, ge)) ends is
]

ranges_are : (f g : ℕ → Bool) (count n : ℕ) → AreFound f g count n
ranges_are f g zero n [] order from ends is = refl
ranges_are f g zero n (x ∷ xs) order from ends is = absurd (omega (first_before_end x xs order, from, ends, arith))
ranges_are f g (suc count) n xs order from ends is = ranges_found f g count n (ranges_are f g count (n + 1)) xs order from ends is

-- ---- the ranges of a path

abbrev ranges_in : List SourceValue → PathValue → List Range
ranges_in [] p = []
ranges_in (s ∷ ss) p = cond (same_path s.path p) s.ranges (ranges_in ss p)

abbrev pub paths_in : List SourceValue → List PathValue
paths_in ss = map (λ s. s.path) ss

none_later : (q : Range → Bool) (k : PathValue) (ss : List SourceValue) → AllByRecursion (λ y. path_cmp k y ≡ Less) (paths_in ss) → any_at q k ss ≡ false
none_later q k [] h = refl
none_later q k (s ∷ ss) h =
    ap (λ t. (t && list_any q s.ranges) || any_at q k ss) (same_path_sym s.path k ∙ path_ties k s.path ∙ ap is_eq h.0)
    ∙ none_later q k ss h.1

any_in : (q : Range → Bool) (p : PathValue) (ss : List SourceValue) → IsStrictlySortedBy path_cmp (paths_in ss) → any_at q p ss ≡ list_any q (ranges_in ss p)
any_in q p [] h = refl
any_in q p (s ∷ ss) h =
    by (any_in q p ss (sorted_tail path_cmp s.path (paths_in ss) h)) (same_path s.path p) refl
  where
    by : any_at q p ss ≡ list_any q (ranges_in ss p) → (b : Bool) → same_path s.path p ≡ b
        → ((b && list_any q s.ranges) || any_at q p ss) ≡ list_any q (cond b s.ranges (ranges_in ss p))
    by deeper true is =
        ap (λ t. list_any q s.ranges || t)
        (ap (λ k. any_at q k ss) (sym (same_path_is s.path p is)) ∙ none_later q s.path ss (sorted_head path_cmp s.path (paths_in ss) h))
        ∙ or_false (list_any q s.ranges)
    by deeper false is = deeper

ordered_in : (ss : List SourceValue) (p : PathValue) → All (λ s. AreInOrder s.ranges) ss → AreInOrder (ranges_in ss p)
ordered_in [] p h = tt
ordered_in (s ∷ ss) p h =
    by (same_path s.path p) (All-head (λ s. AreInOrder s.ranges) s ss h) (ordered_in ss p (All-tail (λ s. AreInOrder s.ranges) s ss h))
  where
    by : (b : Bool) → AreInOrder s.ranges → AreInOrder (ranges_in ss p) → AreInOrder (cond b s.ranges (ranges_in ss p))
    by true here deeper = here
    by false here deeper = deeper

from_zero : (xs : List Range) → IsFrom 0 xs
from_zero [] = tt
from_zero (x ∷ xs) = omega arith

-- ---- no revision is too high

within : (r : ℕ) (xs : List Range) → has r xs ≡ true → r < ranges_end xs
within r [] e = absurd (false≢true e)
within r (x ∷ xs) e = by (within r xs) (covers r x) refl e
  where
    by : (has r xs ≡ true → r < ranges_end xs) → (b : Bool) → covers r x ≡ b → (b || has r xs) ≡ true → r < max (x.last + 1) (ranges_end xs)
    by deeper true here e = omega (arith, leb-true r x.last (and_parts (nat_le x.first r) (nat_le r x.last) here).1)
    by deeper false none e = omega (arith, deeper e)

pub merged_within : (p : PathValue) (r : ℕ) (ss : List SourceValue) → merges ss p r ≡ true → r < revisions_end ss
merged_within p r [] e = absurd (false≢true e)
merged_within p r (s ∷ ss) e = by (merged_within p r ss) (same_path s.path p && has r s.ranges) refl e
  where
    by : (merges ss p r ≡ true → r < revisions_end ss) → (b : Bool) → (same_path s.path p && has r s.ranges) ≡ b → (b || merges ss p r) ≡ true → r < max (ranges_end s.ranges) (revisions_end ss)
    by deeper true here e = omega (arith, within r s.ranges (and_parts (same_path s.path p) (has r s.ranges) here).1)
    by deeper false none e = omega (arith, deeper e)

ends_within : (n : ℕ) (xs : List Range) → AreInOrder xs → ((r : ℕ) → has r xs ≡ true → r < n) → end_of xs ≤ n
ends_within n [] order below = omega arith
ends_within n (x ∷ []) order below =
    let last : x.last < n = below x.last (or_left (covers x.last x) false (covers_within x.last x (first_forward x [] order.0) (omega arith))) in
    omega (arith, last)
ends_within n (x ∷ y ∷ ys) order below =
    ends_within n (y ∷ ys) order.1 (λ r e. below r (or_right (covers r x) (has r (y ∷ ys)) e))

-- ---- path by path

abbrev told_source : List SourceValue → PathValue → SourceValue
told_source told p = record { path = p; ranges = ranges_in told p }

source_told : (sources told : List SourceValue) → IsNormalFormOf sources told → (p : PathValue) → normal_source sources p ≡ told_source told p
source_told sources told form p = λ i. record { path = p; ranges = are i }
  where
    same : (r : ℕ) → merges sources p r ≡ has r (ranges_in told p)
    same r = sym (form.same p r) ∙ any_in (covers r) p told form.is_normal.paths

    order : AreInOrder (ranges_in told p)
    order = ordered_in told p form.is_normal.ranges

    ends : end_of (ranges_in told p) ≤ revisions_end sources
    ends = ends_within (revisions_end sources) (ranges_in told p) order (λ r e. merged_within p r sources (same r ∙ e))

    are : ranges_from (merges sources p) (merges_inheritably sources p) (revisions_end sources) 0 ≡ ranges_in told p
    are =
        ranges_are (merges sources p) (merges_inheritably sources p) (revisions_end sources) 0 (ranges_in told p) order (from_zero (ranges_in told p))
        (omega (arith, ends))
        (record {
          same = λ r le. same r;
          same_inheritable = λ r le.
              sym (form.same_inheritable p r) ∙ any_in (λ x. x.is_inheritable && covers r x) p told form.is_normal.paths;
        })

abbrev pub has_ranges : SourceValue → Bool
has_ranges s = nat_lt 0 (length s.ranges)

pub filter_mapped : (f : PathValue → SourceValue) (ps : List PathValue) → filter has_ranges (map f ps) ≡ map f (filter (λ p. has_ranges (f p)) ps)
filter_mapped f [] = refl
filter_mapped f (p ∷ ps) = by (has_ranges (f p)) (filter_mapped f ps)
  where
    by : (b : Bool) → filter has_ranges (map f ps) ≡ map f (filter (λ p. has_ranges (f p)) ps)
        → cond b (f p ∷ filter has_ranges (map f ps)) (filter has_ranges (map f ps)) ≡ map f (cond b (p ∷ filter (λ p. has_ranges (f p)) ps) (filter (λ p. has_ranges (f p)) ps))
    by true deeper = ap (λ ss. f p ∷ ss) deeper
    by false deeper = deeper

others_told : (s : SourceValue) (ss : List SourceValue) (ks : List PathValue) → AllByRecursion (λ y. path_cmp s.path y ≡ Less) ks → map (told_source (s ∷ ss)) ks ≡ map (told_source ss) ks
others_told s ss [] h = refl
others_told s ss (k ∷ ks) h =
    let other : same_path s.path k ≡ false = path_ties s.path k ∙ ap is_eq h.0 in
    let rest : map (told_source (s ∷ ss)) ks ≡ map (told_source ss) ks = others_told s ss ks h.1 in
    λ i. record { path = k; ranges = cond (other i) s.ranges (ranges_in ss k) } ∷ rest i

told_again : (ss : List SourceValue) → IsStrictlySortedBy path_cmp (paths_in ss) → map (told_source ss) (paths_in ss) ≡ ss
told_again [] h = refl
told_again (s ∷ ss) h =
    let itself : same_path s.path s.path ≡ true = same_path_refl s.path in
    let rest : map (told_source (s ∷ ss)) (paths_in ss) ≡ ss =
    others_told s ss (paths_in ss) (sorted_head path_cmp s.path (paths_in ss) h) ∙ told_again ss (sorted_tail path_cmp s.path (paths_in ss) h) in
    λ i. record { path = s.path; ranges = cond (itself i) s.ranges (ranges_in ss s.path) } ∷ rest i

-- ---- the paths

pub paths_sorted : (ss : List SourceValue) → IsStrictlySortedBy path_cmp (paths_in_order ss)
unfolding IsStrictlySortedBy
paths_sorted [] = tt
paths_sorted (s ∷ ss) = insert_sorted path_cmp path_cmp_total path_cmp-IsAntisymmetric s.path (paths_in_order ss) (paths_sorted ss)

pub merged_among : (p : PathValue) (r : ℕ) (ss : List SourceValue) → merges ss p r ≡ true → is_among (paths_in_order ss) p ≡ true
merged_among p r [] e = absurd (false≢true e)
merged_among p r (s ∷ ss) e = path_inserted (paths_in_order ss) s.path p ∙ by (merged_among p r ss) (same_path s.path p) refl e
  where
    by : (merges ss p r ≡ true → is_among (paths_in_order ss) p ≡ true) → (b : Bool) → same_path s.path p ≡ b → ((b && has r s.ranges) || merges ss p r) ≡ true → (is_among (paths_in_order ss) p || same_path p s.path) ≡ true
    by deeper true is e = or_right (is_among (paths_in_order ss) p) (same_path p s.path) (same_path_sym p s.path ∙ is)
    by deeper false is e = or_left (is_among (paths_in_order ss) p) (same_path p s.path) (deeper e)

not_told : (ss : List SourceValue) (p : PathValue) → is_among (paths_in ss) p ≡ false → has_ranges (told_source ss p) ≡ false
not_told [] p e = refl
not_told (s ∷ ss) p e = by (not_told ss p) (same_path p s.path) refl e
  where
    by : (is_among (paths_in ss) p ≡ false → has_ranges (told_source ss p) ≡ false) → (b : Bool) → same_path p s.path ≡ b → (b || is_among (paths_in ss) p) ≡ false → nat_lt 0 (length (cond (same_path s.path p) s.ranges (ranges_in ss p))) ≡ false
    by deeper true is e = absurd (false≢true (sym e))
    by deeper false is e = ap (λ t. nat_lt 0 (length (cond t s.ranges (ranges_in ss p)))) (same_path_sym s.path p ∙ is) ∙ deeper e

some_told : (ss : List SourceValue) (p : PathValue) → All (λ s. 0 < length s.ranges) ss → is_among (paths_in ss) p ≡ true → has_ranges (told_source ss p) ≡ true
some_told [] p some e = absurd (false≢true e)
some_told (s ∷ ss) p some e =
    by (some_told ss p (All-tail (λ s. 0 < length s.ranges) s ss some)) (same_path p s.path) refl e
  where
    by : (is_among (paths_in ss) p ≡ true → has_ranges (told_source ss p) ≡ true) → (b : Bool) → same_path p s.path ≡ b → (b || is_among (paths_in ss) p) ≡ true → nat_lt 0 (length (cond (same_path s.path p) s.ranges (ranges_in ss p))) ≡ true
    by deeper true is e =
        ap (λ t. nat_lt 0 (length (cond t s.ranges (ranges_in ss p)))) (same_path_sym s.path p ∙ is)
        ∙ lt-ltb 0 (length s.ranges) (All-head (λ s. 0 < length s.ranges) s ss some)
    by deeper false is e =
        ap (λ t. nat_lt 0 (length (cond t s.ranges (ranges_in ss p)))) (same_path_sym s.path p ∙ is) ∙ deeper e

-- a path that is told has a revision
has_first : (xs : List Range) → AreInOrder xs → nat_lt 0 (length xs) ≡ true → (r : ℕ) × (has r xs ≡ true)
has_first [] order e = absurd (false≢true e)
has_first (x ∷ xs) order e =
    (x.first, or_left (covers x.first x) (has x.first xs) (covers_within x.first x (omega arith) (first_forward x xs order.0)))

paths_told : (sources told : List SourceValue) → IsNormalFormOf sources told → (p : PathValue)
    → (is_among (paths_in_order sources) p && has_ranges (told_source told p)) ≡ is_among (paths_in told) p
paths_told sources told form p = by (is_among (paths_in told) p) refl
  where
    by : (b : Bool) → is_among (paths_in told) p ≡ b → (is_among (paths_in_order sources) p && has_ranges (told_source told p)) ≡ b
    by false e =
        ap (λ t. is_among (paths_in_order sources) p && t) (not_told told p e) ∙ and_none (is_among (paths_in_order sources) p)
    by true e =
        let some : has_ranges (told_source told p) ≡ true = some_told told p form.is_normal.some e in
        let found = has_first (ranges_in told p) (ordered_in told p form.is_normal.ranges) some in
        and_from (is_among (paths_in_order sources) p) (has_ranges (told_source told p))
        (merged_among p found.0 sources (sym (form.same p found.0) ∙ any_in (covers found.0) p told form.is_normal.paths ∙ found.1)) some

all_told : (sources told : List SourceValue) → IsNormalFormOf sources told → filter (λ p. has_ranges (told_source told p)) (paths_in_order sources) ≡ paths_in told
all_told sources told form =
    let test : PathValue → Bool = λ p. has_ranges (told_source told p) in
    one_order path_cmp path_cmp_total path_cmp-IsAntisymmetric (filter test (paths_in_order sources)) (paths_in told)
    (IsStrictlySortedBy-filter path_cmp test (paths_in_order sources) (paths_sorted sources)) form.is_normal.paths
    (λ q. sym (λ i. list_any (λ k. path_ties q k i) (filter test (paths_in_order sources)))
    ∙ among_filtered test (paths_in_order sources) q ∙ paths_told sources told form q
    ∙ (λ i. list_any (λ k. path_ties q k i) (paths_in told)))

pub one_form : (sources told : List SourceValue) → IsNormalFormOf sources told → told ≡ normal_form sources
unfolding normal_form
one_form sources told form =
    sym ((λ i. filter has_ranges (map (λ p. source_told sources told form p i) (paths_in_order sources)))
    ∙ filter_mapped (told_source told) (paths_in_order sources)
    ∙ ap (map (told_source told)) (all_told sources told form)
    ∙ told_again told form.is_normal.paths)
