-- Sources that are read have right paths and right ranges, and so has their normal form.
use Rattle.std.proofs.Common.{◌≡◌, ℕ, zero, suc, ◌+◌, ◌*◌, ◌<◌, ◌≤◌, Bool, true, false, cond, ◌&&◌, ◌||◌, List, [], ◌∷◌, length, get_or, Option, Some, None}
use Rattle.std.proofs.{Common.{Result, Ok, Err, refl, sym, ap, ◌∙◌, subst, arith}, lemmas.Bool.{and_from, or_left, or_right, ltb-true, leb-true, le-leb}}
use Rattle.std.proofs.{lemmas.List.length-append, lemmas.List.Elements.{All-nil, All-cons, All-head, All-tail, All-append, All-filter, All-map, All-weaker}}
use Rattle.std.specs.{Prelude.{◌==◌, nat_lt, nat_le}, List.{All, filter, list_any, slice_split}, Option.{unwrap_or, option_and_then}, Result.result_ok}
use Rattle.fsfs_text.specs.{Numerals.{digit_of, with_digit, digits_behind, number_of, decimal_of}, Splits.{split_once, split_last}}
use Rattle.svnpath.specs.{Paths.{PathValue, same_path}, PathLaws.{same_path_is, same_path_refl}, Components.{IsComponent, IsRightPath, beneath}, Texts.is_slash}
use Rattle.svnpath.specs.declared.fault.PathFault.{PathFault}
use Rattle.svnpath.proofs.BeneathLemmas.{beneath_right, root_right}
use Rattle.mergeinfo.specs.{Maybe.{◌>>=◌, each}, Ranges.{covers, has, AreInOrder, IsBelowFirst, IsRightRange, some_are_at_odds}}
use Rattle.mergeinfo.specs.{Sources.{SourceValue, inherited, inherited_source, merges, IsNormalFormOf, IsRightSource}, Texts.{ends_in, is_comma, is_named}}
use Rattle.mergeinfo.specs.Texts.{lines_of, path_of, range_of, ranges_of, revision_of, source_of, sources_of, span_from, span_of, unless_at_odds, unless_zero}
use Rattle.mergeinfo.specs.{Texts.{without_first_blanks, without_last}, declared.range.Range.Range, declared.range.TheConstants.LAST_REVISION}

pub some_is : {A : Type 0} (x y : A) → Some x ≡ Some y → x ≡ y
some_is x y e = ap (λ o. unwrap_or o x) e

-- ---- what is read is right

with_digit_within : (base limit n d m : ℕ) → with_digit base limit n d ≡ Some m → m ≤ limit
with_digit_within base limit n d m e = by (nat_lt d base) (nat_le (n * base + d) limit) refl e
  where
    by : (a b : Bool) → nat_le (n * base + d) limit ≡ b → cond (a && b) (Some (n * base + d)) None ≡ Some m → m ≤ limit
    by false b is e = absurd cc
    by true false is e = absurd cc
    by true true is e = subst (λ x. x ≤ limit) (some_is (n * base + d) m e) (leb-true (n * base + d) limit is)

digits_within : (base limit n : ℕ) (bytes : List ℕ) (m : ℕ) → n ≤ limit → digits_behind base limit n bytes ≡ Some m → m ≤ limit
digits_within base limit n [] m le e = subst (λ x. x ≤ limit) (some_is n m e) le
digits_within base limit n (b ∷ bytes) m le e = by (λ k within is. digits_within base limit k bytes m within is) (digit_of b) e
  where
    next : ((k : ℕ) → k ≤ limit → digits_behind base limit k bytes ≡ Some m → m ≤ limit) → (o : Option ℕ) → ((k : ℕ) → o ≡ Some k → k ≤ limit)
        → option_and_then (λ k. digits_behind base limit k bytes) o ≡ Some m → m ≤ limit
    next deeper None bound e = absurd cc
    next deeper (Some k) bound e = deeper k (bound k refl) e

    by : ((k : ℕ) → k ≤ limit → digits_behind base limit k bytes ≡ Some m → m ≤ limit) → (o : Option ℕ)
        → option_and_then (λ k. digits_behind base limit k bytes) (option_and_then (with_digit base limit n) o) ≡ Some m → m ≤ limit
    by deeper None e = absurd cc
    by deeper (Some d) e = next deeper (with_digit base limit n d) (λ k is. with_digit_within base limit n d k is) e

number_within : (base limit : ℕ) (bytes : List ℕ) (m : ℕ) → number_of base limit bytes ≡ Some m → m ≤ limit
unfolding number_of
number_within base limit [] m e = absurd cc
number_within base limit (b ∷ bytes) m e = digits_within base limit 0 (b ∷ bytes) m (omega arith) e

-- a revision that there may be
pub record IsRight (revision : ℕ) : Type 0 where
  pub some : 0 < revision
  pub within : revision ≤ LAST_REVISION

revision_right : (digits : List ℕ) (n : ℕ) → revision_of digits ≡ Some n → IsRight n
unfolding revision_of
revision_right digits n e = by (nat_lt 10 (length digits)) e
  where
    above : (k : ℕ) → k ≤ LAST_REVISION → (t : Bool) → (k == 0) ≡ t → cond t None (Some k) ≡ Some n → IsRight n
    above k le true is e = absurd cc
    above zero le false is e = absurd cc
    above (suc k) le false is e = subst IsRight (some_is (suc k) n e) (record { some = omega arith; within = le })

    given : (o : Option ℕ) → ((k : ℕ) → o ≡ Some k → k ≤ LAST_REVISION) → unless_zero o ≡ Some n → IsRight n
    given None bound e = absurd cc
    given (Some k) bound e = above k (bound k refl) (k == 0) refl e

    by : (b : Bool) → cond b None (unless_zero (decimal_of LAST_REVISION digits)) ≡ Some n → IsRight n
    by true e = absurd cc
    by false e = given (decimal_of LAST_REVISION digits) (λ k is. number_within 10 LAST_REVISION digits k is) e

abbrev pub as_range : Bool → ℕ → ℕ → Range
as_range kind first last = record { first = first; last = last; is_inheritable = kind }

span_right : (kind : Bool) (text : List ℕ) (r : Range) → span_of kind text ≡ Some r → IsRightRange r
span_right kind text r e = by (split_once 45 text) e
  where
    one : (o : Option ℕ) → ((n : ℕ) → o ≡ Some n → IsRight n) → (o >>= λ n. Some (as_range kind n n)) ≡ Some r → IsRightRange r
    one None h e = absurd cc
    one (Some n) h e =
        let right = h n refl in
        subst IsRightRange (some_is (as_range kind n n) r e) (record { some = right.some; forward = omega arith; within = right.within })

    ordered : (f l : ℕ) → IsRight f → IsRight l → (t : Bool) → nat_lt f l ≡ t → cond t (Some (as_range kind f l)) None ≡ Some r → IsRightRange r
    ordered f l low high true is e =
        subst IsRightRange (some_is (as_range kind f l) r e) (record { some = low.some; forward = omega (arith, ltb-true f l is); within = high.within })
    ordered f l low high false is e = absurd cc

    two : (o q : Option ℕ) → ((n : ℕ) → o ≡ Some n → IsRight n) → ((n : ℕ) → q ≡ Some n → IsRight n)
        → (o >>= λ f. q >>= λ l. cond (nat_lt f l) (Some (as_range kind f l)) None) ≡ Some r → IsRightRange r
    two None q h k e = absurd cc
    two (Some f) None h k e = absurd cc
    two (Some f) (Some l) h k e = ordered f l (h f refl) (k l refl) (nat_lt f l) refl e

    by : (o : Option (List ℕ × List ℕ)) → span_from kind text o ≡ Some r → IsRightRange r
    by None e = one (revision_of text) (λ n is. revision_right text n is) e
    by (Some p) e = two (revision_of p.0) (revision_of p.1) (λ n is. revision_right p.0 n is) (λ n is. revision_right p.1 n is) e

range_right : (text : List ℕ) (r : Range) → range_of text ≡ Some r → IsRightRange r
unfolding range_of
range_right text r e = by (ends_in 42 text) e
  where
    by : (b : Bool) → cond b (span_of false (without_last text)) (span_of true text) ≡ Some r → IsRightRange r
    by true e = span_right false (without_last text) r e
    by false e = span_right true text r e

each_right : {A B : Type 0} (P : B → Type 0) (read : A → Option B) → ((x : A) (y : B) → read x ≡ Some y → P y) → (xs : List A) (ys : List B) → each read xs ≡ Some ys → All P ys
each_right P read h [] ys e = subst (All P) (some_is [] ys e) (All-nil P)
each_right {A} {B} P read h (x ∷ xs) ys e = by (λ zs is. each_right P read h xs zs is) (read x) refl (each read xs) refl e
  where
    by : ((zs : List B) → each read xs ≡ Some zs → All P zs) → (o : Option B) → read x ≡ o → (q : Option (List B)) → each read xs ≡ q
        → (o >>= λ first. q >>= λ others. Some (first ∷ others)) ≡ Some ys → All P ys
    by deeper None is q qs e = absurd cc
    by deeper (Some y) is None qs e = absurd cc
    by deeper (Some y) is (Some zs) qs e = subst (All P) (some_is (y ∷ zs) ys e) (All-cons P y zs (h x y is) (deeper zs qs))

ranges_right : (text : List ℕ) (rs : List Range) → ranges_of text ≡ Some rs → All IsRightRange rs
unfolding ranges_of
ranges_right text rs e = by (each range_of (slice_split is_comma text)) (λ xs is. each_right IsRightRange range_of range_right (slice_split is_comma text) xs is) e
  where
    kept : (xs : List Range) → All IsRightRange xs → (b : Bool) → cond b None (Some xs) ≡ Some rs → All IsRightRange rs
    kept xs right true e = absurd cc
    kept xs right false e = subst (All IsRightRange) (some_is xs rs e) right

    by : (o : Option (List Range)) → ((xs : List Range) → o ≡ Some xs → All IsRightRange xs) → (o >>= λ xs. unless_at_odds xs) ≡ Some rs → All IsRightRange rs
    by None h e = absurd cc
    by (Some xs) h e = kept xs (h xs refl) (some_are_at_odds xs) e

path_right : (text : List ℕ) (p : PathValue) → path_of text ≡ Some p → IsRightPath p
unfolding path_of
path_right text p e = by (beneath [] (filter is_named (slice_split is_slash text))) refl e
  where
    by : (r : Result PathValue PathFault) → beneath [] (filter is_named (slice_split is_slash text)) ≡ r → result_ok r ≡ Some p → IsRightPath p
    by (Ok q) is e = beneath_right (filter is_named (slice_split is_slash text)) [] p root_right (is ∙ ap (λ x. Ok x) (some_is q p e))
    by (Err fault) is e = absurd cc

abbrev pub as_source : PathValue → List Range → SourceValue
as_source path ranges = record { path = path; ranges = ranges }

source_right : (line : List ℕ) (s : SourceValue) → source_of line ≡ Some s → IsRightSource s
unfolding source_of
source_right line s e = by (split_last 58 line) e
  where
    two : (o : Option PathValue) → ((p : PathValue) → o ≡ Some p → IsRightPath p) → (q : Option (List Range)) → ((rs : List Range) → q ≡ Some rs → All IsRightRange rs)
        → (o >>= λ path. q >>= λ ranges. Some (as_source path ranges)) ≡ Some s → IsRightSource s
    two None h q k e = absurd cc
    two (Some p) h None k e = absurd cc
    two (Some p) h (Some rs) k e = subst IsRightSource (some_is (as_source p rs) s e) (record { path = h p refl; ranges = k rs refl })

    by : (o : Option (List ℕ × List ℕ)) → (o >>= λ p. path_of p.0 >>= λ path. ranges_of (without_first_blanks p.1) >>= λ ranges. Some (as_source path ranges)) ≡ Some s → IsRightSource s
    by None e = absurd cc
    by (Some p) e =
        two (path_of p.0) (λ q is. path_right p.0 q is) (ranges_of (without_first_blanks p.1)) (λ rs is. ranges_right (without_first_blanks p.1) rs is) e

pub sources_right : (value : List ℕ) (sources : List SourceValue) → sources_of value ≡ Some sources → All IsRightSource sources
sources_right value sources e = each_right IsRightSource source_of source_right (lines_of value) sources e

-- ---- the normal form

-- a path that passes, and a right revision
pub record IsMerged (P : PathValue → Type 0) (path : PathValue) (revision : ℕ) : Type 0 where
  pub path_passes : P path
  pub right : IsRight revision

has_right : (revision : ℕ) (rs : List Range) → All IsRightRange rs → has revision rs ≡ true → IsRight revision
has_right revision [] right e = absurd cc
has_right revision (r ∷ rs) right e =
    by (λ f. has_right revision rs (All-tail IsRightRange r rs right) f) (nat_le r.first revision) refl (nat_le revision r.last) refl e
  where
    one : IsRightRange r
    one = All-head IsRightRange r rs right

    by : (has revision rs ≡ true → IsRight revision) → (a : Bool) → nat_le r.first revision ≡ a → (b : Bool) → nat_le revision r.last ≡ b
        → ((a && b) || has revision rs) ≡ true → IsRight revision
    by deeper true low true high e =
        record {
          some = omega (arith, leb-true r.first revision low, one.some);
          within = omega (arith, leb-true revision r.last high, one.within);
        }
    by deeper true low false high e = deeper e
    by deeper false low b high e = deeper e

-- a path that passes, with right ranges
abbrev pub Passes : (PathValue → Type 0) → SourceValue → Type 0
Passes P source = P source.path × All IsRightRange source.ranges

merged_right : (P : PathValue → Type 0) (sources : List SourceValue) (p : PathValue) (revision : ℕ) → All (Passes P) sources → merges sources p revision ≡ true → IsMerged P p revision
merged_right P [] p revision right e = absurd cc
merged_right P (s ∷ sources) p revision right e =
    by (λ f. merged_right P sources p revision (All-tail (Passes P) s sources right) f) (same_path s.path p) refl (has revision s.ranges) refl e
  where
    one : Passes P s
    one = All-head (Passes P) s sources right

    by : (merges sources p revision ≡ true → IsMerged P p revision) → (a : Bool) → same_path s.path p ≡ a → (b : Bool) → has revision s.ranges ≡ b
        → ((a && b) || merges sources p revision) ≡ true → IsMerged P p revision
    by deeper true same true held e =
        record { path_passes = subst P (same_path_is s.path p same) one.0; right = has_right revision s.ranges one.1 held }
    by deeper true same false held e = deeper e
    by deeper false same b held e = deeper e

any_at : {X : Type 0} (p : X → Bool) (xs : List X) (k : ℕ) (d : X) → k < length xs → p (get_or xs k d) ≡ true → list_any p xs ≡ true
any_at p [] k d lt e = absurd (omega arith)
any_at p (x ∷ xs) zero d lt e = or_left (p x) (list_any p xs) e
any_at p (x ∷ xs) (suc k) d lt e = or_right (p x) (list_any p xs) (any_at p xs k d (omega arith) e)

pub first_forward : (r : Range) (rs : List Range) → IsBelowFirst r rs → r.first ≤ r.last
first_forward r [] h = h
first_forward r (next ∷ rs) h = h.forward

all_forward : (rs : List Range) → AreInOrder rs → All (λ r. r.first ≤ r.last) rs
all_forward [] h = All-nil (λ r. r.first ≤ r.last)
all_forward (r ∷ rs) h = All-cons (λ r. r.first ≤ r.last) r rs (first_forward r rs h.0) (all_forward rs h.1)

-- what a range of the normal form has was merged
merged_at : (P : PathValue → Type 0) (sources info : List SourceValue) → IsNormalFormOf sources info → All (Passes P) sources → (k : ℕ) (d s : SourceValue) → k < length info → s ≡ get_or info k d
    → (j : ℕ) (e r : Range) → j < length s.ranges → r ≡ get_or s.ranges j e → (revision : ℕ) → r.first ≤ revision → revision ≤ r.last → IsMerged P s.path revision
merged_at P sources info form right k d s lt s_is j e r within r_is revision low high =
    let covered : covers revision r ≡ true = and_from (nat_le r.first revision) (nat_le revision r.last) (le-leb r.first revision low) (le-leb revision r.last high) in
    let held : has revision s.ranges ≡ true = any_at (covers revision) s.ranges j e within (ap (covers revision) (sym r_is) ∙ covered) in
    let here : (same_path s.path s.path && has revision s.ranges) ≡ true = and_from (same_path s.path s.path) (has revision s.ranges) (same_path_refl s.path) held in
    let merged : merges info s.path revision ≡ true =
    any_at (λ t. same_path t.path s.path && has revision t.ranges) info k d lt (ap (λ (t : SourceValue). same_path t.path s.path && has revision t.ranges) (sym s_is) ∙ here) in
    merged_right P sources s.path revision right (sym (form.same s.path revision) ∙ merged)

pub normal_right : (P : PathValue → Type 0) (sources info : List SourceValue) → IsNormalFormOf sources info → All (Passes P) sources → All (Passes P) info
normal_right P sources info form right k d lt =
    let s = get_or info k d in
    let forward = all_forward s.ranges (form.is_normal.ranges k d lt) in
    let none = as_range true 0 0 in
    let first = get_or s.ranges 0 none in
    let some = form.is_normal.some k d lt in (
      (merged_at P sources info form right k d s lt refl 0 none first some refl first.first (omega arith) (forward 0 none some)).path_passes,
      λ j e within.
          let r = get_or s.ranges j e in
          let low = merged_at P sources info form right k d s lt refl j e r within refl r.first (omega arith) (forward j e within) in
          let high = merged_at P sources info form right k d s lt refl j e r within refl r.last (forward j e within) (omega arith) in
          record { some = low.right.some; forward = forward j e within; within = high.right.within },
    )

pub right_normal : (sources info : List SourceValue) → IsNormalFormOf sources info → All IsRightSource sources → All IsRightSource info
right_normal sources info form right =
    All-weaker (Passes IsRightPath) IsRightSource (λ s h. record { path = h.0; ranges = h.1 }) info
    (normal_right IsRightPath sources info form (All-weaker IsRightSource (Passes IsRightPath) (λ s h. (h.path, h.ranges)) sources right))

pub read_right : (value : List ℕ) (sources info : List SourceValue) → sources_of value ≡ Some sources → IsNormalFormOf sources info → All IsRightSource info
read_right value sources info is form = right_normal sources info form (sources_right value sources is)

-- ---- what is inherited

heir_right : (rest : PathValue) (s : SourceValue) → All IsComponent rest → IsRightSource s → length s.path + length rest ≤ 64 → Passes IsRightPath (inherited_source rest s)
heir_right rest s components right short = (
  record {
    components = All-append IsComponent s.path rest right.path.components components;
    depth = omega (arith, length-append s.path rest, short);
  },
  All-filter (λ range. range.is_inheritable) IsRightRange s.ranges right.ranges,
)

pub inherited_right : (rest : PathValue) (sources info : List SourceValue) → IsNormalFormOf (inherited rest sources) info → All IsRightSource sources → All IsComponent rest
    → All (λ source. length source.path + length rest ≤ 64) sources → All IsRightSource info
inherited_right rest sources info form right components short =
    All-weaker (Passes IsRightPath) IsRightSource (λ s h. record { path = h.0; ranges = h.1 }) info
    (normal_right IsRightPath (inherited rest sources) info form
    (All-map (Passes IsRightPath) (inherited_source rest) sources (λ k d lt. heir_right rest (get_or sources k d) components (right k d lt) (short k d lt))))

pub inherited_ranges : (rest : PathValue) (sources info : List SourceValue) → IsNormalFormOf (inherited rest sources) info → All (λ source. All IsRightRange source.ranges) sources
    → All (λ source. All IsRightRange source.ranges) info
inherited_ranges rest sources info form right =
    All-weaker (Passes (λ p. Unit {0})) (λ source. All IsRightRange source.ranges) (λ s h. h.1) info
    (normal_right (λ p. Unit {0}) (inherited rest sources) info form
    (All-map (Passes (λ p. Unit {0})) (inherited_source rest) sources
    (λ k d lt. (tt, All-filter (λ range. range.is_inheritable) IsRightRange (get_or sources k d).ranges (right k d lt)))))
