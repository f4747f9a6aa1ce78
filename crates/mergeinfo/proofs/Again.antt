-- What was written is read again.
use Rattle.std.proofs.Common.{◌≡◌, ℕ, suc, ◌+◌, ◌-◌, ◌<◌, ◌≤◌, Bool, true, false, cond, eqb, not, ◌&&◌, ◌||◌, List, [], ◌∷◌, ◌++◌, length, drop, map, get_or}
use Rattle.std.proofs.Common.{Option, Some, None, IsNone, refl, sym, ap, ◌∙◌, append_assoc, ⊎_elim, arith, lit≤}
use Rattle.std.proofs.lemmas.Bool.{and_right, or_parts, cases_lt, eq-eqb, eqb-true, ne_eqb, lt-ltb, le-ltb, leb-true, false_from_ne_true, false≢true}
use Rattle.std.proofs.{lemmas.Bool.Decides.nat_tests, lemmas.List.{append-nil, length-append, length-map, length_push, take_at}}
use Rattle.std.proofs.{lemmas.List.Elements.{All-nil, All-cons, All-head, All-tail, All-map, All-weaker}, lemmas.List.Folds.list_any_none}
use Rattle.std.proofs.lemmas.List.Splits.{slice_split_none, slice_split_at}
use Rattle.std.proofs.lemmas.Int.Digits.{length-digits_of-le, length-digits_of_step, all_below_base_digits_of}
use Rattle.std.specs.{Prelude.{◌==◌, nat_lt, nat_le, if◌then◌else◌}, List.{All, filter, flat_map, join_with_byte, list_any, prefix_len, slice_split}}
use Rattle.std.specs.{Int.Digits.{digits_of, AllBelowBase}, Cmp.Lexicographic.pointwise, Result.result_ok, Str.is_utf8}
use Rattle.fsfs_text.specs.{Numerals.{decimal_of, digit_of, glyph, numeral}, Splits.is_free}
use Rattle.fsfs_text.proofs.{Numbers.{number_again, numeral_free}, Splits.{is_free-append, split_again, split_last_again, split_none}}
use Rattle.svnpath.specs.{Paths.{PathValue, Component, same_component}, Components.{IsComponent, IsRightPath, beneath, is_forbidden, is_forbidden_byte}}
use Rattle.svnpath.specs.{Texts.{components_of, is_slash, path_text}, declared.fault.PathFault.PathFault}
use Rattle.svnpath.specs.declared.fault.PathFault.TheVariants.{EmptyComponent, ForbiddenComponent, TooLong}
use Rattle.svnpath.proofs.{BeneathLemmas.{beneath_is, beneath_root}, ParsedTexts.parsed-path_text}
use Rattle.mergeinfo.specs.{Maybe.{◌>>=◌, each}, Ranges.{AreInOrder, IsBelowFirst, IsRightRange, are_at_odds, same_kind, some_are_at_odds}}
use Rattle.mergeinfo.specs.{Sources.{SourceValue, IsNormal, IsRightSource}, Texts.{ends_in, is_blank, is_named, lines_in, path_of, range_of, range_text}}
use Rattle.mergeinfo.specs.Texts.{ranges_of, ranges_text, revision_of, source_of, source_text, sources_of, span_from, span_of, span_text, unless_at_odds}
use Rattle.mergeinfo.specs.{Texts.{unless_reversed, unless_zero, without_first_blanks, without_last, written}, declared.range.Range.Range}
use Rattle.mergeinfo.specs.declared.range.TheConstants.{LAST_REVISION}
use Rattle.mergeinfo.proofs.{Odds.{no_odds, odds_swap}, Reading.{behind, each_kept}, Rights.{as_range, as_source, first_forward}}

-- ---- texts without a byte

other_way : (s b : ℕ) → (b == s) ≡ false → (s == b) ≡ false
other_way s b e = ne_eqb s b (λ same. false≢true (sym e ∙ eq-eqb b s (sym same)))

not_there : (b s : ℕ) (bytes : List ℕ) → is_free s (b ∷ bytes) ≡ true → ((b == s) ≡ false) × (is_free s bytes ≡ true)
not_there b s bytes h = by (b == s) h
  where
    by : (t : Bool) → (not t && is_free s bytes) ≡ true → (t ≡ false) × (is_free s bytes ≡ true)
    by true e = absurd cc
    by false e = (refl, e)

free_all : (s : ℕ) (bytes : List ℕ) → is_free s bytes ≡ true → All (λ b. (b == s) ≡ false) bytes
free_all s [] h = All-nil (λ b. (b == s) ≡ false)
free_all s (b ∷ bytes) h =
    let p = not_there b s bytes h in
    All-cons (λ x. (x == s) ≡ false) b bytes p.0 (free_all s bytes p.1)

abbrev pub IsFree : ℕ → List ℕ → Type 0
IsFree s text = is_free s text ≡ true

joined_free : (s c : ℕ) → (c == s) ≡ false → (texts : List (List ℕ)) → All (IsFree s) texts → is_free s (join_with_byte c texts) ≡ true
joined_free s c other [] h = refl
joined_free s c other (x ∷ []) h = All-head (IsFree s) x [] h
joined_free s c other (x ∷ y ∷ texts) h =
    is_free-append s x (c ∷ join_with_byte c (y ∷ texts)) (All-head (IsFree s) x (y ∷ texts) h)
    (ap (λ t. not t && is_free s (join_with_byte c (y ∷ texts))) other ∙ joined_free s c other (y ∷ texts) (All-tail (IsFree s) x (y ∷ texts) h))

-- what was joined is split again
split_joined : (s : ℕ) (x : List ℕ) (xs : List (List ℕ)) → All (IsFree s) (x ∷ xs) → slice_split (λ b. b == s) (join_with_byte s (x ∷ xs)) ≡ x ∷ xs
split_joined s x [] h = slice_split_none (λ b. b == s) x (free_all s x (All-head (IsFree s) x [] h))
split_joined s x (y ∷ xs) h =
    slice_split_at (λ b. b == s) x s (join_with_byte s (y ∷ xs)) (free_all s x (All-head (IsFree s) x (y ∷ xs) h)) (eq-eqb s s refl)
    ∙ ap (λ parts. x ∷ parts) (split_joined s y xs (All-tail (IsFree s) x (y ∷ xs) h))

each_again : {A B : Type 0} (read : A → Option B) (text : B → A) (xs : List B) → All (λ x. read (text x) ≡ Some x) xs → each read (map text xs) ≡ Some xs
each_again read text [] h = refl
each_again read text (x ∷ xs) h =
    each_kept read (text x) (map text xs) x (All-head (λ y. read (text y) ≡ Some y) x xs h)
    ∙ ap (behind (x ∷ [])) (each_again read text xs (All-tail (λ y. read (text y) ≡ Some y) x xs h))

-- ---- how a text ends

ends_more : (s x : ℕ) (text : List ℕ) → 0 < length text → ends_in s (x ∷ text) ≡ ends_in s text
ends_more s x [] some = absurd (omega arith)
ends_more s x (y ∷ text) some =
    let next : length (x ∷ y ∷ text) - 1 ≡ suc (length (y ∷ text) - 1) = omega arith in
    ap (λ n. pointwise eqb (s ∷ []) (drop n (x ∷ y ∷ text))) next

ends_free : (s : ℕ) (back : List ℕ) → 0 < length back → is_free s back ≡ true → ends_in s back ≡ false
ends_free s [] some free = absurd (omega arith)
ends_free s (b ∷ []) some free = ap (λ t. t && true) (other_way s b (not_there b s [] free).0)
ends_free s (b ∷ c ∷ back) some free = ends_more s b (c ∷ back) (omega arith) ∙ ends_free s (c ∷ back) (omega arith) (not_there b s (c ∷ back) free).1

ends_not : (s : ℕ) (front back : List ℕ) → 0 < length back → is_free s back ≡ true → ends_in s (front ++ back) ≡ false
ends_not s [] back some free = ends_free s back some free
ends_not s (x ∷ front) back some free = ends_more s x (front ++ back) (omega (arith, length-append front back, some)) ∙ ends_not s front back some free

star_ends : (text : List ℕ) → ends_in 42 (text ++ 42 ∷ []) ≡ true
star_ends [] = refl
star_ends (x ∷ text) = ends_more 42 x (text ++ 42 ∷ []) (omega (arith, length_push text 42)) ∙ star_ends text

star_off : (text : List ℕ) → without_last (text ++ 42 ∷ []) ≡ text
star_off text = take_at text (42 ∷ []) (length (text ++ 42 ∷ []) - 1) (omega (arith, length_push text 42))

-- ---- revisions

numeral_some : (n : ℕ) → 0 < n → 0 < length (numeral 10 n)
unfolding numeral
numeral_some n some = by (n == 0)
  where
    by : (t : Bool) → 0 < length (cond t (48 ∷ []) (map glyph (digits_of 10 n)))
    by true = omega arith
    by false = omega (arith, length-map (digits_of 10 n) glyph, length-digits_of_step 10 n (lit≤ tt) some)

numeral_short : (n : ℕ) → n ≤ 2147483647 → length (numeral 10 n) ≤ 10
unfolding numeral
numeral_short n within = by (n == 0)
  where
    small : n < 10000000000
    small = omega (arith, within)

    by : (t : Bool) → length (cond t (48 ∷ []) (map glyph (digits_of 10 n))) ≤ 10
    by true = omega arith
    by false = omega (arith, length-map (digits_of 10 n) glyph, length-digits_of-le 10 10 n (lit≤ tt) small)

numeral_other : (s n : ℕ) → digit_of s ≡ None → is_free s (numeral 10 n) ≡ true
numeral_other s n none = numeral_free s 10 n none (lit≤ tt) (lit≤ tt)

revision_again : (n : ℕ) → 0 < n → n ≤ 2147483647 → revision_of (numeral 10 n) ≡ Some n
unfolding revision_of
revision_again n some within =
    ap (λ t. cond t None (unless_zero (decimal_of LAST_REVISION (numeral 10 n)))) (le-ltb 10 (length (numeral 10 n)) (numeral_short n within))
    ∙ ap unless_zero (number_again 10 LAST_REVISION n (lit≤ tt) (lit≤ tt) within)
    ∙ ap (λ t. cond t None (Some n)) (ne_eqb n 0 (λ e. omega (arith, e, some)))

-- no digit is blank
glyph_black : (d : ℕ) → d < 10 → is_blank (glyph d) ≡ false
glyph_black d lt = grind (arith, nat_tests)

digits_first : (ds rest : List ℕ) → 0 < length ds → AllBelowBase 10 ds → prefix_len is_blank (map glyph ds ++ rest) ≡ 0
digits_first [] rest some below = absurd (omega arith)
digits_first (d ∷ ds) rest some below = ap (λ t. cond t (1 + prefix_len is_blank (map glyph ds ++ rest)) 0) (glyph_black d below.0)

numeral_first : (n : ℕ) (rest : List ℕ) → 0 < n → prefix_len is_blank (numeral 10 n ++ rest) ≡ 0
unfolding numeral
numeral_first n rest some =
    ap (λ t. prefix_len is_blank (cond t (48 ∷ []) (map glyph (digits_of 10 n)) ++ rest)) (ne_eqb n 0 (λ e. omega (arith, e, some)))
    ∙ digits_first (digits_of 10 n) rest (omega (arith, length-digits_of_step 10 n (lit≤ tt) some)) (all_below_base_digits_of 10 n (lit≤ tt))

-- ---- ranges

less_from : (f l : ℕ) → f ≤ l → (f == l) ≡ false → f < l
less_from f l le other = ⊎_elim (λ lt. lt) (λ ge. absurd (false≢true (sym other ∙ eq-eqb f l (omega (arith, le, ge))))) (cases_lt f l)

span_again : (kind : Bool) (f l : ℕ) → 0 < f → f ≤ l → l ≤ 2147483647 → span_of kind (span_text f l) ≡ Some (as_range kind f l)
span_again kind f l some forward within = by (f == l) refl
  where
    first : revision_of (numeral 10 f) ≡ Some f
    first = revision_again f some (omega (arith, forward, within))

    by : (t : Bool) → (f == l) ≡ t → span_of kind (cond t (numeral 10 f) (numeral 10 f ++ 45 ∷ numeral 10 l)) ≡ Some (as_range kind f l)
    by true is =
        ap (span_from kind (numeral 10 f)) (split_none 45 (numeral 10 f) (numeral_other 45 f refl))
        ∙ ap (λ (o : Option ℕ). o >>= λ n. Some (as_range kind n n)) first
        ∙ ap (λ n. Some (as_range kind f n)) (eqb-true f l is)
    by false is =
        ap (span_from kind (numeral 10 f ++ 45 ∷ numeral 10 l)) (split_again 45 (numeral 10 f) (numeral 10 l) (numeral_other 45 f refl))
        ∙ ap (λ (o : Option ℕ). o >>= λ m. revision_of (numeral 10 l) >>= λ n. unless_reversed (as_range kind m n)) first
        ∙ ap (λ (o : Option ℕ). o >>= λ n. unless_reversed (as_range kind f n)) (revision_again l (omega (arith, some, forward)) within)
        ∙ ap (λ t. cond t (Some (as_range kind f l)) None) (lt-ltb f l (less_from f l forward is))

span_some : (f l : ℕ) → 0 < f → 0 < length (span_text f l)
span_some f l some = by (f == l)
  where
    by : (t : Bool) → 0 < length (cond t (numeral 10 f) (numeral 10 f ++ 45 ∷ numeral 10 l))
    by true = numeral_some f some
    by false = omega (arith, length-append (numeral 10 f) (45 ∷ numeral 10 l), numeral_some f some)

span_free : (s f l : ℕ) → digit_of s ≡ None → (45 == s) ≡ false → is_free s (span_text f l) ≡ true
span_free s f l none dash = by (f == l)
  where
    by : (t : Bool) → is_free s (cond t (numeral 10 f) (numeral 10 f ++ 45 ∷ numeral 10 l)) ≡ true
    by true = numeral_other s f none
    by false =
        is_free-append s (numeral 10 f) (45 ∷ numeral 10 l) (numeral_other s f none)
        (ap (λ t. not t && is_free s (numeral 10 l)) dash ∙ numeral_other s l none)

span_first : (f l : ℕ) (rest : List ℕ) → 0 < f → prefix_len is_blank (span_text f l ++ rest) ≡ 0
span_first f l rest some = by (f == l)
  where
    by : (t : Bool) → prefix_len is_blank (cond t (numeral 10 f) (numeral 10 f ++ 45 ∷ numeral 10 l) ++ rest) ≡ 0
    by true = numeral_first f rest some
    by false = ap (prefix_len is_blank) (append_assoc (numeral 10 f) (45 ∷ numeral 10 l) rest) ∙ numeral_first f (45 ∷ numeral 10 l ++ rest) some

range_again_of : (kind : Bool) (f l : ℕ) → 0 < f → f ≤ l → l ≤ 2147483647 → range_of (range_text (as_range kind f l)) ≡ Some (as_range kind f l)
unfolding range_of
range_again_of true f l some forward within =
    ap (λ text. cond (ends_in 42 text) (span_of false (without_last text)) (span_of true text)) (append-nil (span_text f l))
    ∙ ap (λ t. cond t (span_of false (without_last (span_text f l))) (span_of true (span_text f l))) (ends_free 42 (span_text f l) (span_some f l some) (span_free 42 f l refl refl))
    ∙ span_again true f l some forward within
range_again_of false f l some forward within =
    ap (λ t. cond t (span_of false (without_last (span_text f l ++ 42 ∷ []))) (span_of true (span_text f l ++ 42 ∷ []))) (star_ends (span_text f l))
    ∙ ap (span_of false) (star_off (span_text f l))
    ∙ span_again false f l some forward within

range_again : (r : Range) → IsRightRange r → range_of (range_text r) ≡ Some r
range_again r right = range_again_of r.is_inheritable r.first r.last right.some right.forward right.within

-- the star, where there is one
abbrev pub star_of : Bool → List ℕ
star_of kind = if kind then [] else 42 ∷ []

range_some : (r : Range) → IsRightRange r → 0 < length (range_text r)
range_some r right = omega (arith, length-append (span_text r.first r.last) (star_of r.is_inheritable), span_some r.first r.last right.some)

range_free : (s : ℕ) → digit_of s ≡ None → (45 == s) ≡ false → (42 == s) ≡ false → (r : Range) → is_free s (range_text r) ≡ true
range_free s none dash star r = is_free-append s (span_text r.first r.last) (star_of r.is_inheritable) (span_free s r.first r.last none dash) (by r.is_inheritable)
  where
    by : (kind : Bool) → is_free s (star_of kind) ≡ true
    by true = refl
    by false = ap (λ t. not t && true) star

all_free : (s : ℕ) → digit_of s ≡ None → (45 == s) ≡ false → (42 == s) ≡ false → (rs : List Range) → All (IsFree s) (map range_text rs)
all_free s none dash star rs = All-map (IsFree s) range_text rs (λ k d lt. range_free s none dash star (get_or rs k d))

ranges_free : (s : ℕ) → digit_of s ≡ None → (45 == s) ≡ false → (42 == s) ≡ false → (44 == s) ≡ false → (rs : List Range) → is_free s (ranges_text rs) ≡ true
ranges_free s none dash star comma rs = joined_free s 44 comma (map range_text rs) (all_free s none dash star rs)

range_first : (r : Range) (rest : List ℕ) → IsRightRange r → prefix_len is_blank (range_text r ++ rest) ≡ 0
range_first r rest right =
    ap (prefix_len is_blank) (append_assoc (span_text r.first r.last) (star_of r.is_inheritable) rest)
    ∙ span_first r.first r.last (star_of r.is_inheritable ++ rest) right.some

ranges_first : (r : Range) (rs : List Range) → IsRightRange r → prefix_len is_blank (ranges_text (r ∷ rs)) ≡ 0
ranges_first r [] right = ap (prefix_len is_blank) (sym (append-nil (range_text r))) ∙ range_first r [] right
ranges_first r (q ∷ rs) right = range_first r (44 ∷ ranges_text (q ∷ rs)) right

black : (rs : List Range) → All IsRightRange rs → without_first_blanks (ranges_text rs) ≡ ranges_text rs
black [] right = refl
black (r ∷ rs) right = ap (λ n. drop n (ranges_text (r ∷ rs))) (ranges_first r rs (All-head IsRightRange r rs right))

-- ---- ranges in order are not at odds

odds_apart : (x y : Range) → x.last < y.first → are_at_odds x y ≡ false
odds_apart x y lt =
    and_right (not (same_kind x.is_inheritable y.is_inheritable) && nat_le x.first y.last) (nat_le y.first x.last)
    (false_from_ne_true (nat_le y.first x.last) (λ e. omega (arith, leb-true y.first x.last e, lt)))

later_ranges : (r : Range) (rs : List Range) → IsBelowFirst r rs → AreInOrder rs → All (λ x. r.last < x.first) rs
later_ranges r [] below order = All-nil (λ x. r.last < x.first)
later_ranges r (next ∷ rs) below order =
    All-cons (λ x. r.last < x.first) next rs below.apart
    (All-weaker (λ x. next.last < x.first) (λ x. r.last < x.first) (λ x lt. omega (arith, lt, below.apart, first_forward next rs order.0)) rs
    (later_ranges next rs order.0 order.1))

none_at_odds_with : (rs : List Range) → AreInOrder rs → All (λ x. All (λ y. are_at_odds x y ≡ false) rs) rs
none_at_odds_with [] order = All-nil (λ x. All (λ y. are_at_odds x y ≡ false) [])
none_at_odds_with (r ∷ rs) order =
    let later = later_ranges r rs order.0 order.1 in
    let deeper = none_at_odds_with rs order.1 in
    All-cons (λ x. All (λ y. are_at_odds x y ≡ false) (r ∷ rs)) r rs
    (All-cons (λ y. are_at_odds r y ≡ false) r rs (no_odds r.is_inheritable (nat_le r.first r.last) (nat_le r.first r.last))
    (All-weaker (λ x. r.last < x.first) (λ y. are_at_odds r y ≡ false) (odds_apart r) rs later))
    (λ k d lt.
    let x = get_or rs k d in
    All-cons (λ y. are_at_odds x y ≡ false) r rs (odds_swap x r ∙ odds_apart r x (later k d lt)) (deeper k d lt))

order_at_odds : (rs : List Range) → AreInOrder rs → some_are_at_odds rs ≡ false
order_at_odds rs order =
    let none = none_at_odds_with rs order in
    list_any_none (λ x. list_any (are_at_odds x) rs) rs (λ k d lt. list_any_none (are_at_odds (get_or rs k d)) rs (none k d lt))

ranges_again : (rs : List Range) → AreInOrder rs → All IsRightRange rs → 0 < length rs → ranges_of (ranges_text rs) ≡ Some rs
unfolding ranges_of
ranges_again [] order right some = absurd (omega arith)
ranges_again (r ∷ rs) order right some =
    ap (λ parts. each range_of parts >>= λ xs. unless_at_odds xs) (split_joined 44 (range_text r) (map range_text rs) (all_free 44 refl refl refl (r ∷ rs)))
    ∙ ap (λ (o : Option (List Range)). o >>= λ xs. unless_at_odds xs)
    (each_again range_of range_text (r ∷ rs) (All-weaker IsRightRange (λ x. range_of (range_text x) ≡ Some x) range_again (r ∷ rs) right))
    ∙ ap (λ t. cond t None (Some (r ∷ rs))) (order_at_odds (r ∷ rs) order)

-- ---- paths

record IsPlain (c : Component) : Type 0 where
  named : is_named c ≡ true
  free : list_any is_forbidden_byte c ≡ false

component_plain : (c : Component) → IsComponent c → IsPlain c
component_plain c right = by (length c == 0) refl (is_forbidden c) refl (if nat_lt 255 (length c) then Some TooLong else None) right
  where
    by : (e : Bool) → (length c == 0) ≡ e → (f : Bool) → is_forbidden c ≡ f → (rest : Option PathFault)
        → IsNone (cond e (Some EmptyComponent) (cond f (Some ForbiddenComponent) rest)) → IsPlain c
    by true some f is rest h = cc
    by false some true is rest h = cc
    by false some false is rest h =
        let bytes : Bool = list_any is_forbidden_byte c in
        let dot : Bool = same_component c (46 ∷ []) in
        let dots : Bool = same_component c (46 ∷ 46 ∷ []) in
        let both = or_parts bytes dot (or_parts (bytes || dot) dots (or_parts (bytes || dot || dots) (not (is_utf8 c)) is).0).0 in
        record {
          named = ap (λ t. not t && not dot) some ∙ ap not both.1;
          free = both.0;
        }

no_feed : (c : Component) → list_any is_forbidden_byte c ≡ false → is_free 10 c ≡ true
no_feed [] e = refl
no_feed (b ∷ c) e =
    let both = or_parts (is_forbidden_byte b) (list_any is_forbidden_byte c) e in
    let other : (b == 10) ≡ false = (or_parts (b == 0) (b == 10) (or_parts ((b == 0) || (b == 10)) (b == 47) both.0).0).1 in
    ap (λ t. not t && is_free 10 c) other ∙ no_feed c both.1

-- the components' texts one after another
abbrev pub texts : List Component → List ℕ
texts = flat_map (λ component. 47 ∷ component)

texts_free : (p : List Component) → All IsComponent p → is_free 10 (texts p) ≡ true
texts_free [] right = refl
texts_free (c ∷ p) right =
    is_free-append 10 c (texts p) (no_feed c (component_plain c (All-head IsComponent c p right)).free) (texts_free p (All-tail IsComponent c p right))

path_free : (p : PathValue) → All IsComponent p → is_free 10 (path_text p) ≡ true
path_free [] right = refl
path_free (c ∷ p) right = texts_free (c ∷ p) right

named_all : (p : PathValue) → All IsComponent p → filter is_named p ≡ p
named_all [] right = refl
named_all (c ∷ p) right =
    ap (λ t. cond t (c ∷ filter is_named p) (filter is_named p)) (component_plain c (All-head IsComponent c p right)).named
    ∙ ap (λ q. c ∷ q) (named_all p (All-tail IsComponent c p right))

path_again : (p : PathValue) → IsRightPath p → path_of (path_text p) ≡ Some p
unfolding path_of
path_again [] right = refl
path_again ([] ∷ p) right = cc (All-head IsComponent [] p right.components)
path_again ((b ∷ c) ∷ p) right =
    let parts : slice_split is_slash ((b ∷ c) ++ texts p) ≡ (b ∷ c) ∷ p =
    sym (beneath_is [] (components_of ((b ∷ c) ++ texts p)) ((b ∷ c) ∷ p) (parsed-path_text ((b ∷ c) ∷ p) right)) in
    ap (λ xs. result_ok (beneath [] (filter is_named ([] ∷ xs)))) parts
    ∙ ap (λ xs. result_ok (beneath [] xs)) (named_all ((b ∷ c) ∷ p) right.components)
    ∙ ap result_ok (beneath_root ((b ∷ c) ∷ p) right)

-- ---- lines

source_again : (s : SourceValue) → IsRightSource s → AreInOrder s.ranges → 0 < length s.ranges → source_of (source_text s) ≡ Some s
unfolding source_of
source_again s right order some =
    ap (λ (o : Option (List ℕ × List ℕ)). o >>= λ p. path_of p.0 >>= λ path. ranges_of (without_first_blanks p.1) >>= λ ranges. Some (as_source path ranges))
    (split_last_again 58 (path_text s.path) (ranges_text s.ranges) (ranges_free 58 refl refl refl refl s.ranges))
    ∙ ap (λ (o : Option PathValue). o >>= λ path. ranges_of (without_first_blanks (ranges_text s.ranges)) >>= λ ranges. Some (as_source path ranges)) (path_again s.path right.path)
    ∙ ap (λ text. ranges_of text >>= λ ranges. Some (as_source s.path ranges)) (black s.ranges right.ranges)
    ∙ ap (λ (o : Option (List Range)). o >>= λ ranges. Some (as_source s.path ranges)) (ranges_again s.ranges order right.ranges some)

-- the last range ends in a digit or a star
ends_ranges : (front : List ℕ) (r : Range) (rs : List Range) → All IsRightRange (r ∷ rs) → ends_in 44 (front ++ ranges_text (r ∷ rs)) ≡ false
ends_ranges front r [] right = ends_not 44 front (range_text r) (range_some r (All-head IsRightRange r [] right)) (range_free 44 refl refl refl r)
ends_ranges front r (q ∷ rs) right =
    ap (ends_in 44)
    (sym (append_assoc front (range_text r) (44 ∷ ranges_text (q ∷ rs))) ∙ sym (append_assoc (front ++ range_text r) (44 ∷ []) (ranges_text (q ∷ rs))))
    ∙ ends_ranges ((front ++ range_text r) ++ 44 ∷ []) q rs (All-tail IsRightRange r (q ∷ rs) right)

-- a line that its end tells from what follows, and that is kept as it is
pub record IsLine (text : List ℕ) : Type 0 where
  pub some : 0 < length text
  pub no_comma : ends_in 44 text ≡ false
  pub no_feed : is_free 10 text ≡ true

no_last_comma : (front : List ℕ) (rs : List Range) → All IsRightRange rs → 0 < length rs → ends_in 44 (front ++ 58 ∷ ranges_text rs) ≡ false
no_last_comma front [] right some = absurd (omega arith)
no_last_comma front (r ∷ rs) right some =
    ap (ends_in 44) (sym (append_assoc front (58 ∷ []) (ranges_text (r ∷ rs)))) ∙ ends_ranges (front ++ 58 ∷ []) r rs right

line_is : (s : SourceValue) → IsRightSource s → 0 < length s.ranges → IsLine (source_text s)
line_is s right some =
    record {
      some = omega (arith, length-append (path_text s.path) (58 ∷ ranges_text s.ranges));
      no_comma = no_last_comma (path_text s.path) s.ranges right.ranges some;
      no_feed =
          is_free-append 10 (path_text s.path) (58 ∷ ranges_text s.ranges) (path_free s.path right.path.components)
          (ranges_free 10 refl refl refl refl s.ranges);
    }

lines_again : (lines : List (List ℕ)) → All IsLine lines → lines_in lines ≡ lines
lines_again [] h = refl
lines_again (x ∷ []) h =
    let some = (All-head IsLine x [] h).some in
    ap (λ t. cond t [] (x ∷ [])) (ne_eqb (length x) 0 (λ e. omega (arith, e, some)))
lines_again (x ∷ y ∷ lines) h =
    ap (λ t. cond t (without_last x) x ∷ lines_in (y ∷ lines)) (All-head IsLine x (y ∷ lines) h).no_comma
    ∙ ap (λ xs. x ∷ xs) (lines_again (y ∷ lines) (All-tail IsLine x (y ∷ lines) h))

pub written_again : (info : List SourceValue) → IsNormal info → All IsRightSource info → sources_of (written info) ≡ Some info
written_again [] normal right = refl
written_again (s ∷ sources) normal right =
    let info = s ∷ sources in
    let lines : All IsLine (map source_text info) = All-map IsLine source_text info (λ k d lt. line_is (get_or info k d) (right k d lt) (normal.some k d lt)) in
    ap (λ parts. each source_of (lines_in parts))
    (split_joined 10 (source_text s) (map source_text sources) (All-weaker IsLine (IsFree 10) (λ text line. line.no_feed) (map source_text info) lines))
    ∙ ap (each source_of) (lines_again (map source_text info) lines)
    ∙ each_again source_of source_text info (λ k d lt. source_again (get_or info k d) (right k d lt) (normal.ranges k d lt) (normal.some k d lt))
