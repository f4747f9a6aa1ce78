-- What is written and what is opens, as the place goes on.
use Rattle.std.proofs.Common.{◌≡◌, ℕ, ◌+◌, ◌<◌, ◌≤◌, ◌^◌, max, min, Bool, true, false, ◌&&◌, ◌||◌, List, [], ◌∷◌, ◌++◌, refl, sym, ap, ◌∙◌, subst, length, take}
use Rattle.std.proofs.{Common.{get_or, arith, inl, inr}, lemmas.Bool.{and_from, and_left, cases_lt, le-leb, lt-leb, lt-ltb, le-ltb}}
use Rattle.std.proofs.{lemmas.Bool.Decides.nat_tests, lemmas.List.Folds.list_any-append, lemmas.List.{take_more, take_all, get_or_default}}
use Rattle.std.proofs.lemmas.List.Sorted.{list_any-IsPermutation}
use Rattle.std.specs.{Prelude.{nat_le, nat_lt}, List.list_any, List.Sorted.{IsPermutation, IsNonDecreasingBy}}
use Rattle.mergeinfo.specs.Ranges.{covers, has, has_inheritable, IsBelow, AreInOrder}
use Rattle.mergeinfo.specs.{Sweeps.{end_of, IsInOrderOf, IsOpenFrom, IsPushed, IsSweptTo, IsWrittenTo}, declared.range.Range.Range, declared.sweep.Sweep.Sweep}
use Rattle.mergeinfo.proofs.Pushes.{head_order, tail_order}

pub covers_within : (r : ℕ) (x : Range) → x.first ≤ r → r ≤ x.last → covers r x ≡ true
covers_within r x low high = and_from (nat_le x.first r) (nat_le r x.last) (le-leb x.first r low) (le-leb r x.last high)

pub covers_before : (r : ℕ) (x : Range) → r < x.first → covers r x ≡ false
covers_before r x lt = and_left (nat_le x.first r) (nat_le r x.last) (lt-leb x.first r lt)

pub covers_past : (r : ℕ) (x : Range) → x.last < r → covers r x ≡ false
covers_past r x lt = and_second (nat_le x.first r) (nat_le r x.last) (lt-leb r x.last lt)
  where
    and_second : (a b : Bool) → b ≡ false → (a && b) ≡ false
    and_second true b e = e
    and_second false b e = refl

and_false : (a : Bool) → (a && false) ≡ false
and_false true = refl
and_false false = refl

pub and_true : (a : Bool) → (a && true) ≡ a
and_true true = refl
and_true false = refl

pub or_false : (a : Bool) → (a || false) ≡ a
or_false true = refl
or_false false = refl

pub or_true : (a : Bool) → (a || true) ≡ true
or_true true = refl
or_true false = refl

-- ---- nothing is written from the end on

pub first_before_end : (y : Range) (ys : List Range) → AreInOrder (y ∷ ys) → y.first < end_of (y ∷ ys)
first_before_end y [] h = let forward : y.first ≤ y.last = head_order y [] h in omega (arith, forward)
first_before_end y (z ∷ zs) h =
    let below : IsBelow y z = head_order y (z ∷ zs) h in
    let deeper : z.first < end_of (z ∷ zs) = first_before_end z zs (tail_order y (z ∷ zs) h) in
    omega (arith, below.forward, below.apart, deeper)

none_past : (p : Range → Bool) (r : ℕ) (past : (x : Range) → x.last < r → p x ≡ false) (xs : List Range) → AreInOrder xs → end_of xs ≤ r → list_any p xs ≡ false
none_past p r past [] h e = refl
none_past p r past (x ∷ []) h e = ap (λ t. t || false) (past x (omega (arith, e)))
none_past p r past (x ∷ y ∷ xs) h e =
    let below : IsBelow x y = head_order x (y ∷ xs) h in
    let rest : AreInOrder (y ∷ xs) = tail_order x (y ∷ xs) h in
    let first : y.first < end_of (y ∷ xs) = first_before_end y xs rest in
    ap (λ t. t || list_any p (y ∷ xs)) (past x (omega (arith, below.apart, first, e))) ∙ none_past p r past (y ∷ xs) rest e

has_past : (r : ℕ) (xs : List Range) → AreInOrder xs → end_of xs ≤ r → has r xs ≡ false
has_past r xs h e = none_past (covers r) r (λ x lt. covers_past r x lt) xs h e

has_inheritable_past : (r : ℕ) (xs : List Range) → AreInOrder xs → end_of xs ≤ r → has_inheritable r xs ≡ false
has_inheritable_past r xs h e =
    none_past (λ x. x.is_inheritable && covers r x) r (λ x lt. ap (λ t. x.is_inheritable && t) (covers_past r x lt) ∙ and_false x.is_inheritable) xs h e

-- ---- what is written goes on

-- from the place to the end the ranges have all revisions, of one kind
abbrev pub IsFull : ℕ → ℕ → Bool → List Range → Type 0
IsFull place end kind ranges = (revision : ℕ) → place ≤ revision → revision < end → (has revision ranges ≡ true) × (has_inheritable revision ranges ≡ kind)

pub written_more : (place end : ℕ) (kind : Bool) (ranges written longer : List Range) (range : Range) → range.first ≡ place → range.last + 1 ≡ end → range.is_inheritable ≡ kind
    → (AreInOrder written → end_of written ≤ range.first → range.first ≤ range.last → IsPushed written range longer) → place < end
    → IsWrittenTo place ranges written → IsFull place end kind ranges → IsWrittenTo end ranges longer
written_more place end kind ranges written longer range first last is_kind push some w full =
    let p : IsPushed written range longer = push w.order (omega (arith, w.ends, first)) (omega (arith, first, last, some)) in
    record {
      order = p.order;
      ends = omega (arith, p.ends, last);
      same = λ r below. p.all r ∙ elim (cases_lt r place) [
        | inl lt ↦ ap (λ t. has r written || (t || false)) (covers_before r range (omega (arith, lt, first))) ∙ or_false (has r written) ∙ w.same r lt
        | inr ge ↦ ap (λ t. has r written || (t || false)) (covers_within r range (omega (arith, ge, first)) (omega (arith, below, last))) ∙ or_true (has r written) ∙ sym (full r ge below).0
      ];
      same_inheritable = λ r below. p.inheritable r ∙ elim (cases_lt r place) [
        | inl lt ↦
            ap (λ t. has_inheritable r written || ((range.is_inheritable && t) || false)) (covers_before r range (omega (arith, lt, first)))
            ∙ ap (λ t. has_inheritable r written || (t || false)) (and_false range.is_inheritable)
            ∙ or_false (has_inheritable r written) ∙ w.same_inheritable r lt
        | inr ge ↦
            ap (λ t. has_inheritable r written || ((range.is_inheritable && t) || false)) (covers_within r range (omega (arith, ge, first)) (omega (arith, below, last)))
            ∙ ap (λ t. t || ((range.is_inheritable && true) || false)) (has_inheritable_past r written w.order (omega (arith, w.ends, ge)))
            ∙ or_false (range.is_inheritable && true) ∙ and_true range.is_inheritable ∙ is_kind ∙ sym (full r ge below).1
      ];
    }

written_on : (place end : ℕ) (ranges written : List Range) → place ≤ end
    → ((revision : ℕ) → place ≤ revision → revision < end → (has revision ranges ≡ false) × (has_inheritable revision ranges ≡ false))
    → IsWrittenTo place ranges written → IsWrittenTo end ranges written
written_on place end ranges written up empty w =
    record {
      order = w.order;
      ends = omega (arith, w.ends, up);
      same = λ r below. elim (cases_lt r place) [
        | inl lt ↦ w.same r lt
        | inr ge ↦ has_past r written w.order (omega (arith, w.ends, ge)) ∙ sym (empty r ge below).0
      ];
      same_inheritable = λ r below. elim (cases_lt r place) [
        | inl lt ↦ w.same_inheritable r lt
        | inr ge ↦ has_inheritable_past r written w.order (omega (arith, w.ends, ge)) ∙ sym (empty r ge below).1
      ];
    }

-- what one write does
abbrev pub Writes : ℕ → ℕ → Bool → List Range → List Range → ℕ → Type 0
Writes place end kind written longer next =
    (ranges : List Range) → IsWrittenTo place ranges written → IsFull place end kind ranges → IsWrittenTo next ranges longer

-- two writes, and on to the place
pub both_written : (place0 place inheritable other first second place1 place2 : ℕ) (ranges written0 written1 written2 : List Range)
    → first ≡ min inheritable place → second ≡ min other place → place1 ≡ max place0 first → place2 ≡ max place1 second
    → Writes place0 first true written0 written1 place1 → Writes place1 second false written1 written2 place2
    → place0 ≤ place → IsOpenFrom place0 inheritable other ranges → IsWrittenTo place0 ranges written0 → IsWrittenTo place ranges written2
both_written place0 place inheritable other first second place1 place2 ranges written0 written1 written2 first_is second_is place1_is place2_is write1 write2 up opens w0 =
    let w1 : IsWrittenTo place1 ranges written1 = write1 ranges w0 (λ r low high.
    let under : nat_lt r inheritable ≡ true = lt-ltb r inheritable (omega (arith, first_is, high)) in
    (opens.all r low ∙ ap (λ t. t || nat_lt r other) under, opens.inheritable r low ∙ under)) in
    let w2 : IsWrittenTo place2 ranges written2 = write2 ranges w1 (λ r low high.
    let from : place0 ≤ r = omega (arith, place1_is, low) in
    let over : nat_lt r inheritable ≡ false = le-ltb r inheritable (omega (arith, first_is, second_is, place1_is, low, high)) in
    let under : nat_lt r other ≡ true = lt-ltb r other (omega (arith, second_is, high)) in
    (opens.all r from ∙ ap (λ t. nat_lt r inheritable || t) under ∙ or_true (nat_lt r inheritable), opens.inheritable r from ∙ over)) in
    written_on place2 place ranges written2 (omega (arith, first_is, second_is, place1_is, place2_is, up)) (λ r low high.
    let from : place0 ≤ r = omega (arith, place1_is, place2_is, low) in
    let over : nat_lt r inheritable ≡ false = le-ltb r inheritable (omega (arith, first_is, place1_is, place2_is, low, high)) in
    let over_other : nat_lt r other ≡ false = le-ltb r other (omega (arith, second_is, place2_is, low, high)) in
    (opens.all r from ∙ ap (λ t. t || nat_lt r other) over ∙ over_other, opens.inheritable r from ∙ over)) w2

pub open_on : (place0 place inheritable other : ℕ) (ranges : List Range) → place0 ≤ place → IsOpenFrom place0 inheritable other ranges → IsOpenFrom place inheritable other ranges
open_on place0 place inheritable other ranges up opens =
    record {
      all = λ r low. opens.all r (omega (arith, up, low));
      inheritable = λ r low. opens.inheritable r (omega (arith, up, low));
    }

-- ---- a range is taken in

pub not_before : (place : ℕ) (ranges : List Range) (x : Range) (written : List Range) → x.first ≡ place → IsWrittenTo place ranges written → IsWrittenTo place (ranges ++ x ∷ []) written
not_before place ranges x written first w =
    record {
      order = w.order;
      ends = w.ends;
      same = λ r below. w.same r below ∙ sym (list_any-append (covers r) ranges (x ∷ []) ∙ ap (λ t. has r ranges || (t || false)) (covers_before r x (omega (arith, first, below))) ∙ or_false (has r ranges));
      same_inheritable = λ r below.
          w.same_inheritable r below
          ∙ sym (list_any-append (λ y. y.is_inheritable && covers r y) ranges (x ∷ [])
          ∙ ap (λ t. has_inheritable r ranges || ((x.is_inheritable && t) || false)) (covers_before r x (omega (arith, first, below)))
          ∙ ap (λ t. has_inheritable r ranges || (t || false)) (and_false x.is_inheritable)
          ∙ or_false (has_inheritable r ranges));
    }

covers_from : (r : ℕ) (x : Range) → x.first ≤ r → covers r x ≡ nat_lt r (x.last + 1)
covers_from r x low = grind (arith, nat_tests)

pub max_lt : (r a c d : ℕ) → d ≡ max a c → nat_lt r d ≡ (nat_lt r a || nat_lt r c)
max_lt r a c d e = elim (cases_lt r a) [
  | inl lt ↦ lt-ltb r d (omega (arith, e, lt)) ∙ sym (ap (λ t. t || nat_lt r c) (lt-ltb r a lt))
  | inr ge ↦ elim (cases_lt r c) [
    | inl lt ↦ lt-ltb r d (omega (arith, e, lt)) ∙ sym (ap (λ t. t || nat_lt r c) (le-ltb r a ge) ∙ lt-ltb r c lt)
    | inr past ↦ le-ltb r d (omega (arith, e, ge, past)) ∙ sym (ap (λ t. t || nat_lt r c) (le-ltb r a ge) ∙ le-ltb r c past)
  ]
]

or_third : (a b c : Bool) → ((a || b) || (c || false)) ≡ ((a || c) || b)
or_third true b c = refl
or_third false true c = sym (or_true c)
or_third false false c = refl

or_fourth : (a b c : Bool) → ((a || b) || (c || false)) ≡ (a || (b || c))
or_fourth true b c = refl
or_fourth false b c = ap (λ t. b || t) (or_false c)

has_more : (r : ℕ) (ranges : List Range) (x : Range) (b : Bool) → x.first ≤ r → has r ranges ≡ b → has r (ranges ++ x ∷ []) ≡ (b || (nat_lt r (x.last + 1) || false))
has_more r ranges x b low is =
    list_any-append (covers r) ranges (x ∷ []) ∙ ap (λ t. t || (covers r x || false)) is
    ∙ ap (λ t. b || (t || false)) (covers_from r x low)

has_inheritable_more : (r : ℕ) (ranges : List Range) (x : Range) (b kind : Bool) → x.first ≤ r → x.is_inheritable ≡ kind → has_inheritable r ranges ≡ b
    → has_inheritable r (ranges ++ x ∷ []) ≡ (b || ((kind && nat_lt r (x.last + 1)) || false))
has_inheritable_more r ranges x b kind low is_kind is =
    list_any-append (λ y. y.is_inheritable && covers r y) ranges (x ∷ []) ∙ ap (λ t. t || ((x.is_inheritable && covers r x) || false)) is
    ∙ ap (λ k. b || ((k && covers r x) || false)) is_kind
    ∙ ap (λ t. b || ((kind && t) || false)) (covers_from r x low)

pub taken_inheritable : (place inheritable other later : ℕ) (ranges : List Range) (x : Range) → x.first ≡ place → x.is_inheritable ≡ true → later ≡ max inheritable (x.last + 1)
    → IsOpenFrom place inheritable other ranges → IsOpenFrom place later other (ranges ++ x ∷ [])
taken_inheritable place inheritable other later ranges x first kind is opens =
    record {
      all = λ r low.
          has_more r ranges x (nat_lt r inheritable || nat_lt r other) (omega (arith, first, low)) (opens.all r low)
          ∙ or_third (nat_lt r inheritable) (nat_lt r other) (nat_lt r (x.last + 1))
          ∙ ap (λ t. t || nat_lt r other) (sym (max_lt r inheritable (x.last + 1) later is));
      inheritable = λ r low.
          has_inheritable_more r ranges x (nat_lt r inheritable) true (omega (arith, first, low)) kind (opens.inheritable r low)
          ∙ ap (λ t. nat_lt r inheritable || t) (or_false (nat_lt r (x.last + 1)))
          ∙ sym (max_lt r inheritable (x.last + 1) later is);
    }

pub taken_other : (place inheritable other later : ℕ) (ranges : List Range) (x : Range) → x.first ≡ place → x.is_inheritable ≡ false → later ≡ max other (x.last + 1)
    → IsOpenFrom place inheritable other ranges → IsOpenFrom place inheritable later (ranges ++ x ∷ [])
taken_other place inheritable other later ranges x first kind is opens =
    record {
      all = λ r low.
          has_more r ranges x (nat_lt r inheritable || nat_lt r other) (omega (arith, first, low)) (opens.all r low)
          ∙ or_fourth (nat_lt r inheritable) (nat_lt r other) (nat_lt r (x.last + 1))
          ∙ ap (λ t. nat_lt r inheritable || t) (sym (max_lt r other (x.last + 1) later is));
      inheritable = λ r low.
          has_inheritable_more r ranges x (nat_lt r inheritable) false (omega (arith, first, low)) kind (opens.inheritable r low)
          ∙ or_false (nat_lt r inheritable);
    }

-- ---- the end

-- all revisions are below 2^32, and so everything is written
pub all_written : (place inheritable other : ℕ) (ranges written : List Range) → inheritable ≤ place → other ≤ place → IsOpenFrom place inheritable other ranges → IsWrittenTo place ranges written → IsInOrderOf ranges written
all_written place inheritable other ranges written past past_other opens w =
    record {
      order = w.order;
      same = λ r. elim (cases_lt r place) [
        | inl lt ↦ w.same r lt
        | inr ge ↦
            has_past r written w.order (omega (arith, w.ends, ge))
            ∙ sym (opens.all r ge ∙ ap (λ t. t || nat_lt r other) (le-ltb r inheritable (omega (arith, past, ge))) ∙ le-ltb r other (omega (arith, past_other, ge)))
      ];
      same_inheritable = λ r. elim (cases_lt r place) [
        | inl lt ↦ w.same_inheritable r lt
        | inr ge ↦ has_inheritable_past r written w.order (omega (arith, w.ends, ge)) ∙ sym (opens.inheritable r ge ∙ le-ltb r inheritable (omega (arith, past, ge)))
      ];
    }

-- ---- over the sorted ranges

pub record IsSweptOver (ranges items : List Range) (i : ℕ) (sweep : Sweep) : Type 0 where
  pub moved : IsPermutation ranges items
  pub sorted : IsNonDecreasingBy (λ range. range.first) items
  pub swept : IsSweptTo sweep.place (take i items) sweep
  pub before : (k : ℕ) (d : Range) → i ≤ k → k < length items → sweep.place ≤ (get_or items k d).first

pub swept_none : (ranges held items : List Range) (sweep : Sweep) → items ≡ held → IsPermutation ranges held → IsNonDecreasingBy (λ range. range.first) held → IsSweptTo 0 [] sweep → IsSweptOver ranges items 0 sweep
swept_none ranges held items sweep is moved sorted s =
    record {
      moved = subst (IsPermutation ranges) (sym is) moved;
      sorted = subst (IsNonDecreasingBy (λ range. range.first)) (sym is) sorted;
      swept = subst (λ n. IsSweptTo n [] sweep) (sym s.at_place) s;
      before = λ k d low high. omega (arith, s.at_place);
    }

pub swept_more : (ranges items : List Range) (i : ℕ) (e x : Range) (old new : Sweep) → i < length items → x ≡ get_or items i e
    → ((ranges : List Range) → old.place ≤ x.first → IsSweptTo old.place ranges old → IsSweptTo x.first (ranges ++ x ∷ []) new)
    → IsSweptOver ranges items i old → IsSweptOver ranges items (i + 1) new
swept_more ranges items i e x old new within is taken h =
    let low : old.place ≤ x.first = subst (λ y. old.place ≤ y.first) (sym is) (h.before i e (omega arith) within) in
    let whole : take i items ++ x ∷ [] ≡ take (i + 1) items = ap (λ y. take i items ++ y ∷ []) is ∙ sym (take_more items i e within) in
    let s : IsSweptTo x.first (take i items ++ x ∷ []) new = taken (take i items) low h.swept in
    record {
      moved = h.moved;
      sorted = h.sorted;
      swept = subst (λ ys. IsSweptTo new.place ys new) whole (subst (λ n. IsSweptTo n (take i items ++ x ∷ []) new) (sym s.at_place) s);
      before = λ k d from high.
          let up : (get_or items i d).first ≤ (get_or items k d).first = h.sorted i k d (omega (arith, from)) high in
          let here : x ≡ get_or items i d = is ∙ get_or_default items i e d within in
          subst (λ n. n ≤ (get_or items k d).first) (sym s.at_place) (subst (λ y. y.first ≤ (get_or items k d).first) (sym here) up);
    }

pub swept_whole : (ranges items : List Range) (i : ℕ) (sweep : Sweep) → length items ≤ i → IsSweptOver ranges items i sweep → IsSweptTo sweep.place items sweep
swept_whole ranges items i sweep over h = subst (λ ys. IsSweptTo sweep.place ys sweep) (take_all i items over) h.swept

pub in_order_like : (ranges items ordered : List Range) → IsPermutation ranges items → IsInOrderOf items ordered → IsInOrderOf ranges ordered
in_order_like ranges items ordered moved f =
    record {
      order = f.order;
      same = λ r. f.same r ∙ sym (list_any-IsPermutation (covers r) ranges items moved);
      same_inheritable = λ r. f.same_inheritable r ∙ sym (list_any-IsPermutation (λ x. x.is_inheritable && covers r x) ranges items moved);
    }

-- ---- a range is opened

pub opened_inheritable : (ranges : List Range) (x : Range) (old new : Sweep) → x.is_inheritable ≡ true → x.last < 2 ^ 32 → new.written.items ≡ old.written.items → new.place ≡ old.place
    → new.inheritable_end ≡ max old.inheritable_end (x.last + 1) → new.other_end ≡ old.other_end → IsSweptTo x.first ranges old → IsSweptTo x.first (ranges ++ x ∷ []) new
opened_inheritable ranges x old new kind fits written place later other s =
    record {
      at_place = place ∙ s.at_place;
      place_within = subst (λ n. n ≤ 2 ^ 32) (sym place) s.place_within;
      is_written = subst (IsWrittenTo x.first (ranges ++ x ∷ [])) (sym written) (not_before x.first ranges x old.written.items refl s.is_written);
      is_open = subst (λ n. IsOpenFrom x.first new.inheritable_end n (ranges ++ x ∷ [])) (sym other) (taken_inheritable x.first old.inheritable_end old.other_end new.inheritable_end ranges x refl kind later s.is_open);
      inheritable_within = omega (arith, later, fits, s.inheritable_within);
      other_within = subst (λ n. n ≤ 2 ^ 32) (sym other) s.other_within;
    }

pub opened_other : (ranges : List Range) (x : Range) (old new : Sweep) → x.is_inheritable ≡ false → x.last < 2 ^ 32 → new.written.items ≡ old.written.items → new.place ≡ old.place
    → new.inheritable_end ≡ old.inheritable_end → new.other_end ≡ max old.other_end (x.last + 1) → IsSweptTo x.first ranges old → IsSweptTo x.first (ranges ++ x ∷ []) new
opened_other ranges x old new kind fits written place one later s =
    record {
      at_place = place ∙ s.at_place;
      place_within = subst (λ n. n ≤ 2 ^ 32) (sym place) s.place_within;
      is_written = subst (IsWrittenTo x.first (ranges ++ x ∷ [])) (sym written) (not_before x.first ranges x old.written.items refl s.is_written);
      is_open = subst (λ n. IsOpenFrom x.first n new.other_end (ranges ++ x ∷ [])) (sym one) (taken_other x.first old.inheritable_end old.other_end new.other_end ranges x refl kind later s.is_open);
      inheritable_within = subst (λ n. n ≤ 2 ^ 32) (sym one) s.inheritable_within;
      other_within = omega (arith, later, fits, s.other_within);
    }
