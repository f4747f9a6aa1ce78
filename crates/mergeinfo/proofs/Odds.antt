-- Ranges at odds are found among those that are sorted.
use Rattle.std.proofs.Common.{◌≡◌, ℕ, ◌+◌, ◌<◌, ◌≤◌, max, Bool, true, false, not, ◌&&◌, ◌||◌, List, [], ◌∷◌, ◌++◌, length, take, drop, get_or, refl, sym, ap}
use Rattle.std.proofs.{Common.{◌∙◌, subst, arith}, lemmas.Bool.{le-leb, lt-ltb, le-ltb}, lemmas.Bool.Decides.nat_tests}
use Rattle.std.proofs.{lemmas.List.{take_more, take_all, take-append-drop, get_or-take, get_or_default, length-take-le}, lemmas.List.Folds.list_any-append}
use Rattle.std.proofs.{lemmas.List.Elements.{All-head, All-tail, All-get_or, All-from_get_or}, lemmas.List.Sorted.{list_any-IsPermutation, All-permutation}}
use Rattle.std.specs.{Prelude.{nat_le, nat_lt}, List.{list_any, All}, List.Sorted.{IsPermutation, IsNonDecreasingBy}}
use Rattle.mergeinfo.specs.{Ranges.{same_kind, are_at_odds, some_are_at_odds, IsRightRange}, declared.range.Range.Range}
use Rattle.mergeinfo.proofs.Sweeping.{max_lt, and_true, or_false, or_true}

-- whether one of the ranges of the kind reaches the revision
abbrev pub reaches : Bool → ℕ → List Range → Bool
reaches kind revision ranges = list_any (λ y. same_kind kind y.is_inheritable && nat_le revision y.last) ranges

any_agree : (f g : Range → Bool) → ((x : Range) → f x ≡ g x) → (xs : List Range) → list_any f xs ≡ list_any g xs
any_agree f g same [] = refl
any_agree f g same (x ∷ xs) = ap (λ t. t || list_any f xs) (same x) ∙ ap (λ t. g x || t) (any_agree f g same xs)

or_mixed : (a b c d : Bool) → ((a || b) || (c || d)) ≡ ((a || c) || (b || d))
or_mixed true b c d = refl
or_mixed false true true d = refl
or_mixed false true false d = refl
or_mixed false false c d = refl

any_or : (f g : Range → Bool) (xs : List Range) → list_any (λ x. f x || g x) xs ≡ (list_any f xs || list_any g xs)
any_or f g [] = refl
any_or f g (x ∷ xs) = ap (λ t. (f x || g x) || t) (any_or f g xs) ∙ or_mixed (f x) (g x) (list_any f xs) (list_any g xs)

-- ---- two ranges

not_kind : (a b : Bool) → not (same_kind a b) ≡ not (same_kind b a)
not_kind true true = refl
not_kind true false = refl
not_kind false true = refl
not_kind false false = refl

other_kind : (a b : Bool) → not (same_kind a b) ≡ same_kind (not b) a
other_kind true true = refl
other_kind true false = refl
other_kind false true = refl
other_kind false false = refl

pub no_odds : (a b c : Bool) → ((not (same_kind a a) && b) && c) ≡ false
no_odds true b c = refl
no_odds false b c = refl

and_swap : (k a b : Bool) → ((k && a) && b) ≡ ((k && b) && a)
and_swap false a b = refl
and_swap true true true = refl
and_swap true true false = refl
and_swap true false true = refl
and_swap true false false = refl

pub odds_swap : (x y : Range) → are_at_odds x y ≡ are_at_odds y x
odds_swap x y =
    ap (λ k. (k && nat_le x.first y.last) && nat_le y.first x.last) (not_kind x.is_inheritable y.is_inheritable)
    ∙ and_swap (not (same_kind y.is_inheritable x.is_inheritable)) (nat_le x.first y.last) (nat_le y.first x.last)

odds_after : (y x : Range) → y.first ≤ x.first → x.first ≤ x.last → are_at_odds y x ≡ (same_kind (not x.is_inheritable) y.is_inheritable && nat_le x.first y.last)
odds_after y x before forward =
    ap (λ t. (not (same_kind y.is_inheritable x.is_inheritable) && t) && nat_le x.first y.last) (le-leb y.first x.last (omega (arith, before, forward)))
    ∙ ap (λ t. t && nat_le x.first y.last) (and_true (not (same_kind y.is_inheritable x.is_inheritable)))
    ∙ ap (λ k. k && nat_le x.first y.last) (other_kind y.is_inheritable x.is_inheritable)

odds_before : (x : Range) (ys : List Range) → All (λ y. y.first ≤ x.first) ys → x.first ≤ x.last → list_any (λ y. are_at_odds y x) ys ≡ reaches (not x.is_inheritable) x.first ys
odds_before x [] before forward = refl
odds_before x (y ∷ ys) before forward =
    ap (λ t. t || list_any (λ y. are_at_odds y x) ys) (odds_after y x (All-head (λ y. y.first ≤ x.first) y ys before) forward)
    ∙ ap (λ t. (same_kind (not x.is_inheritable) y.is_inheritable && nat_le x.first y.last) || t) (odds_before x ys (All-tail (λ y. y.first ≤ x.first) y ys before) forward)

-- ---- one range more

or_twice : (s l : Bool) → ((s || l) || ((l || false) || false)) ≡ (s || l)
or_twice true l = refl
or_twice false true = refl
or_twice false false = refl

some_more : (ys : List Range) (x : Range) → some_are_at_odds (ys ++ x ∷ []) ≡ (some_are_at_odds ys || list_any (λ y. are_at_odds y x) ys)
some_more ys x =
    let all = ys ++ x ∷ [] in
    let against = list_any (λ y. are_at_odds y x) ys in
    let former : list_any (λ y. list_any (are_at_odds y) all) ys ≡ (some_are_at_odds ys || against) =
    any_agree (λ y. list_any (are_at_odds y) all) (λ y. list_any (are_at_odds y) ys || are_at_odds y x)
    (λ y. list_any-append (are_at_odds y) ys (x ∷ []) ∙ ap (λ t. list_any (are_at_odds y) ys || t) (or_false (are_at_odds y x))) ys
    ∙ any_or (λ y. list_any (are_at_odds y) ys) (λ y. are_at_odds y x) ys in
    let latter : list_any (are_at_odds x) all ≡ (against || false) =
    list_any-append (are_at_odds x) ys (x ∷ [])
    ∙ ap (λ t. list_any (are_at_odds x) ys || (t || false)) (no_odds x.is_inheritable (nat_le x.first x.last) (nat_le x.first x.last))
    ∙ ap (λ t. t || false) (any_agree (are_at_odds x) (λ y. are_at_odds y x) (λ y. odds_swap x y) ys) in
    list_any-append (λ y. list_any (are_at_odds y) all) ys (x ∷ [])
    ∙ ap (λ t. t || (list_any (are_at_odds x) all || false)) former
    ∙ ap (λ t. (some_are_at_odds ys || against) || (t || false)) latter
    ∙ or_twice (some_are_at_odds ys) against

some_longer : (ys zs : List Range) → some_are_at_odds ys ≡ true → some_are_at_odds (ys ++ zs) ≡ true
some_longer ys zs some =
    let all = ys ++ zs in
    list_any-append (λ y. list_any (are_at_odds y) all) ys zs
    ∙ ap (λ t. t || list_any (λ y. list_any (are_at_odds y) all) zs)
    (any_agree (λ y. list_any (are_at_odds y) all) (λ y. list_any (are_at_odds y) ys || list_any (are_at_odds y) zs) (λ y. list_any-append (are_at_odds y) ys zs) ys
    ∙ any_or (λ y. list_any (are_at_odds y) ys) (λ y. list_any (are_at_odds y) zs) ys
    ∙ ap (λ t. t || list_any (λ y. list_any (are_at_odds y) zs) ys) some)

some_permuted : (xs ys : List Range) → IsPermutation xs ys → some_are_at_odds xs ≡ some_are_at_odds ys
some_permuted xs ys moved =
    list_any-IsPermutation (λ x. list_any (are_at_odds x) xs) xs ys moved
    ∙ any_agree (λ x. list_any (are_at_odds x) xs) (λ x. list_any (are_at_odds x) ys) (λ x. list_any-IsPermutation (are_at_odds x) xs ys moved) ys

-- ---- the loop

pub record IsJudgedTo (ranges items : List Range) (i inheritable other : ℕ) : Type 0 where
  pub moved : IsPermutation ranges items
  pub sorted : IsNonDecreasingBy (λ range. range.first) items
  pub right : All IsRightRange items
  pub none : some_are_at_odds (take i items) ≡ false
  pub reach : (revision : ℕ) → reaches true revision (take i items) ≡ nat_lt revision inheritable
  pub reach_other : (revision : ℕ) → reaches false revision (take i items) ≡ nat_lt revision other

pub judged_none : (ranges held items : List Range) → items ≡ held → IsPermutation ranges held → IsNonDecreasingBy (λ range. range.first) held → All IsRightRange ranges → IsJudgedTo ranges items 0 0 0
judged_none ranges held items is moved sorted right =
    record {
      moved = subst (IsPermutation ranges) (sym is) moved;
      sorted = subst (IsNonDecreasingBy (λ range. range.first)) (sym is) sorted;
      right = subst (All IsRightRange) (sym is) (All-permutation IsRightRange ranges held moved right);
      none = refl;
      reach = λ r. sym (le-ltb r 0 (omega arith));
      reach_other = λ r. sym (le-ltb r 0 (omega arith));
    }

item_is : (items : List Range) (i : ℕ) (e x : Range) → i < length items → x ≡ get_or items i e → x ≡ get_or items i x
item_is items i e x within is = is ∙ get_or_default items i e x within

firsts_before : (items : List Range) (i : ℕ) (x : Range) → IsNonDecreasingBy (λ range. range.first) items → i < length items → x ≡ get_or items i x → All (λ y. y.first ≤ x.first) (take i items)
firsts_before items i x sorted within is =
    All-from_get_or (λ y. y.first ≤ x.first) (take i items) x (λ k lt.
    let count : length (take i items) ≡ i = length-take-le i items (omega (arith, within)) in
    let below : k < i = omega (arith, count, lt) in
    let up : (get_or items k x).first ≤ (get_or items i x).first = sorted k i x (omega (arith, below)) within in
    let there : get_or (take i items) k x ≡ get_or items k x = get_or-take i items k x below in
    subst (λ y. y.first ≤ x.first) (sym there) (subst (λ z. (get_or items k x).first ≤ z.first) (sym is) up))

against_is : (ranges items : List Range) (i inheritable other : ℕ) (x : Range) → i < length items → x ≡ get_or items i x → IsJudgedTo ranges items i inheritable other
    → list_any (λ y. are_at_odds y x) (take i items) ≡ reaches (not x.is_inheritable) x.first (take i items)
against_is ranges items i inheritable other x within is h =
    let right : IsRightRange x = subst IsRightRange (sym is) (All-get_or IsRightRange items i x within h.right) in
    odds_before x (take i items) (firsts_before items i x h.sorted within is) right.forward

next_take : (items : List Range) (i : ℕ) (x : Range) → i < length items → x ≡ get_or items i x → take (i + 1) items ≡ take i items ++ x ∷ []
next_take items i x within is = take_more items i x within ∙ ap (λ y. take i items ++ y ∷ []) (sym is)

le_lt : (f l : ℕ) → nat_le f l ≡ nat_lt f (l + 1)
le_lt f l = grind (arith, nat_tests)

reach_more : (kind : Bool) (f e later : ℕ) (ys all : List Range) (x : Range) → all ≡ ys ++ x ∷ [] → same_kind kind x.is_inheritable ≡ true → later ≡ max e (x.last + 1) → reaches kind f ys ≡ nat_lt f e → reaches kind f all ≡ nat_lt f later
reach_more kind f e later ys all x whole same is before =
    ap (reaches kind f) whole ∙ list_any-append (λ y. same_kind kind y.is_inheritable && nat_le f y.last) ys (x ∷ [])
    ∙ ap (λ t. t || ((same_kind kind x.is_inheritable && nat_le f x.last) || false)) before
    ∙ ap (λ k. nat_lt f e || ((k && nat_le f x.last) || false)) same
    ∙ ap (λ t. nat_lt f e || t) (or_false (nat_le f x.last) ∙ le_lt f x.last)
    ∙ sym (max_lt f e (x.last + 1) later is)

reach_same : (kind : Bool) (f e : ℕ) (ys all : List Range) (x : Range) → all ≡ ys ++ x ∷ [] → same_kind kind x.is_inheritable ≡ false → reaches kind f ys ≡ nat_lt f e → reaches kind f all ≡ nat_lt f e
reach_same kind f e ys all x whole other before =
    ap (reaches kind f) whole ∙ list_any-append (λ y. same_kind kind y.is_inheritable && nat_le f y.last) ys (x ∷ [])
    ∙ ap (λ t. t || ((same_kind kind x.is_inheritable && nat_le f x.last) || false)) before
    ∙ ap (λ k. nat_lt f e || ((k && nat_le f x.last) || false)) other
    ∙ or_false (nat_lt f e)

none_more : (ys all : List Range) (x : Range) → all ≡ ys ++ x ∷ [] → some_are_at_odds ys ≡ false → list_any (λ y. are_at_odds y x) ys ≡ false → some_are_at_odds all ≡ false
none_more ys all x whole none apart =
    ap some_are_at_odds whole ∙ some_more ys x ∙ ap (λ t. t || list_any (λ y. are_at_odds y x) ys) none ∙ apart

pub judged_inheritable : (ranges items : List Range) (i inheritable other later : ℕ) (e x : Range) → i < length items → x ≡ get_or items i e → x.is_inheritable ≡ true → other ≤ x.first → later ≡ max inheritable (x.last + 1)
    → IsJudgedTo ranges items i inheritable other → IsJudgedTo ranges items (i + 1) later other
judged_inheritable ranges items i inheritable other later e x within here kind past later_is h =
    let is : x ≡ get_or items i x = item_is items i e x within here in
    let whole : take (i + 1) items ≡ take i items ++ x ∷ [] = next_take items i x within is in
    record {
      moved = h.moved;
      sorted = h.sorted;
      right = h.right;
      none = none_more (take i items) (take (i + 1) items) x whole h.none
          (against_is ranges items i inheritable other x within is h ∙ ap (λ k. reaches (not k) x.first (take i items)) kind ∙ h.reach_other x.first ∙ le-ltb x.first other past);
      reach = λ r. reach_more true r inheritable later (take i items) (take (i + 1) items) x whole kind later_is (h.reach r);
      reach_other = λ r. reach_same false r other (take i items) (take (i + 1) items) x whole (ap not kind) (h.reach_other r);
    }

pub judged_other : (ranges items : List Range) (i inheritable other later : ℕ) (e x : Range) → i < length items → x ≡ get_or items i e → x.is_inheritable ≡ false → inheritable ≤ x.first → later ≡ max other (x.last + 1)
    → IsJudgedTo ranges items i inheritable other → IsJudgedTo ranges items (i + 1) inheritable later
judged_other ranges items i inheritable other later e x within here kind past later_is h =
    let is : x ≡ get_or items i x = item_is items i e x within here in
    let whole : take (i + 1) items ≡ take i items ++ x ∷ [] = next_take items i x within is in
    record {
      moved = h.moved;
      sorted = h.sorted;
      right = h.right;
      none = none_more (take i items) (take (i + 1) items) x whole h.none
          (against_is ranges items i inheritable other x within is h ∙ ap (λ k. reaches (not k) x.first (take i items)) kind ∙ h.reach x.first ∙ le-ltb x.first inheritable past);
      reach = λ r. reach_same true r inheritable (take i items) (take (i + 1) items) x whole kind (h.reach r);
      reach_other = λ r. reach_more false r other later (take i items) (take (i + 1) items) x whole (ap not kind) later_is (h.reach_other r);
    }

odd_found : (ranges items : List Range) (i inheritable other : ℕ) (x : Range) → i < length items → x ≡ get_or items i x → IsJudgedTo ranges items i inheritable other
    → list_any (λ y. are_at_odds y x) (take i items) ≡ true → true ≡ some_are_at_odds ranges
odd_found ranges items i inheritable other x within is h odd =
    let here : some_are_at_odds (take (i + 1) items) ≡ true =
    ap some_are_at_odds (next_take items i x within is) ∙ some_more (take i items) x
    ∙ ap (λ t. some_are_at_odds (take i items) || t) odd ∙ or_true (some_are_at_odds (take i items)) in
    sym (some_permuted ranges items h.moved ∙ ap some_are_at_odds (sym (take-append-drop (i + 1) items)) ∙ some_longer (take (i + 1) items) (drop (i + 1) items) here)

pub odd_inheritable : (ranges items : List Range) (i inheritable other : ℕ) (e x : Range) → i < length items → x ≡ get_or items i e → x.is_inheritable ≡ true → x.first < other
    → IsJudgedTo ranges items i inheritable other → true ≡ some_are_at_odds ranges
odd_inheritable ranges items i inheritable other e x within here kind under h =
    let is : x ≡ get_or items i x = item_is items i e x within here in
    odd_found ranges items i inheritable other x within is h
    (against_is ranges items i inheritable other x within is h ∙ ap (λ k. reaches (not k) x.first (take i items)) kind ∙ h.reach_other x.first ∙ lt-ltb x.first other under)

pub odd_other : (ranges items : List Range) (i inheritable other : ℕ) (e x : Range) → i < length items → x ≡ get_or items i e → x.is_inheritable ≡ false → x.first < inheritable
    → IsJudgedTo ranges items i inheritable other → true ≡ some_are_at_odds ranges
odd_other ranges items i inheritable other e x within here kind under h =
    let is : x ≡ get_or items i x = item_is items i e x within here in
    odd_found ranges items i inheritable other x within is h
    (against_is ranges items i inheritable other x within is h ∙ ap (λ k. reaches (not k) x.first (take i items)) kind ∙ h.reach x.first ∙ lt-ltb x.first inheritable under)

pub none_at_odds : (ranges items : List Range) (i inheritable other : ℕ) → length items ≤ i → IsJudgedTo ranges items i inheritable other → false ≡ some_are_at_odds ranges
none_at_odds ranges items i inheritable other over h =
    sym (some_permuted ranges items h.moved ∙ ap some_are_at_odds (sym (take_all i items over)) ∙ h.none)
