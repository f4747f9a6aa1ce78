-- The value of `normal_form` is a normal form.
use Rattle.std.proofs.Common.{◌≡◌, ◌⊎◌, ℕ, zero, suc, ◌+◌, ◌<◌, ◌≤◌, ◌==◌, Bool, true, false, cond, ◌&&◌, ◌||◌, List, [], ◌∷◌, length, map, refl, sym, ap, ◌∙◌}
use Rattle.std.proofs.{Common.{subst, arith, inl, inr}, lemmas.Bool.{false≢true, and_from, and_parts, cases_lt, eqb-true, ltb-true, lt-ltb, or_left}}
use Rattle.std.proofs.{lemmas.List.Elements.{All-nil, All-cons, All-filter}, lemmas.List.Kept.IsStrictlySortedBy-filter}
use Rattle.std.specs.{Prelude.nat_lt, List.{All, filter, list_any}, List.Sorted.IsStrictlySortedBy}
use Rattle.svnpath.specs.{Paths.{PathValue, path_cmp, same_path}, PathLaws.same_path_is}
use Rattle.mergeinfo.specs.Ranges.{covers, has, has_inheritable, same_kind, AreInOrder, IsBelowFirst}
use Rattle.mergeinfo.specs.Sources.{SourceValue, merges, merges_inheritably, IsNormalFormOf}
use Rattle.mergeinfo.specs.{Normal.{in_front, normal_form, normal_source, paths_in_order, ranges_from, revisions_end}, declared.range.Range.Range}
use Rattle.mergeinfo.proofs.{Gathering.{any_at, same_path_sym}, OneForm.{between, filter_mapped, from_less, has_before, has_inheritable_before, has_ranges}}
use Rattle.mergeinfo.proofs.{OneForm.{merged_among, merged_within, not_inheritably, paths_in, paths_sorted, IsFrom}, PathSets.{and_none, is_among, or_behind}}
use Rattle.mergeinfo.proofs.{Pushes.{and_joined, below_apart, covers_joined, same_kind_is}, Rights.first_forward}
use Rattle.mergeinfo.proofs.Sweeping.{and_true, covers_past, covers_within, or_false}

-- ---- a revision in front

front_order : (n : ℕ) (k : Bool) (xs : List Range) → AreInOrder xs → IsFrom (n + 1) xs → AreInOrder (in_front n k xs)
front_order n k [] order from = (omega arith, tt)
front_order n k (x ∷ xs) order from = by (same_kind k x.is_inheritable && (n + 1 == x.first)) refl
  where
    joined : (ys : List Range) → AreInOrder (x ∷ ys) → k ≡ x.is_inheritable → IsBelowFirst (between n x.last k) ys
    joined [] h kind = let forward : x.first ≤ x.last = h.0 in omega (arith, from, forward)
    joined (y ∷ ys) h kind =
        record { forward = omega (arith, from, h.0.forward); apart = h.0.apart; maximal = λ e. h.0.maximal (sym kind ∙ e) }

    by : (b : Bool) → (same_kind k x.is_inheritable && (n + 1 == x.first)) ≡ b → AreInOrder (cond b (between n x.last k ∷ xs) (between n n k ∷ x ∷ xs))
    by true e =
        (joined xs order (same_kind_is k x.is_inheritable (and_parts (same_kind k x.is_inheritable) (n + 1 == x.first) e).0), order.1)
    by false e = (below_apart (between n n k) x e (omega arith) from, order)

front_from : (n : ℕ) (k : Bool) (xs : List Range) → IsFrom n (in_front n k xs)
front_from n k [] = omega arith
front_from n k (x ∷ xs) = by (same_kind k x.is_inheritable && (n + 1 == x.first))
  where
    by : (b : Bool) → IsFrom n (cond b (between n x.last k ∷ xs) (between n n k ∷ x ∷ xs))
    by true = omega arith
    by false = omega arith

-- it has that revision, and what was there
front_has : (n r : ℕ) (k : Bool) (xs : List Range) → AreInOrder xs → has r (in_front n k xs) ≡ (covers r (between n n k) || has r xs)
front_has n r k [] order = refl
front_has n r k (x ∷ xs) order = by (same_kind k x.is_inheritable && (n + 1 == x.first)) refl
  where
    by : (b : Bool) → (same_kind k x.is_inheritable && (n + 1 == x.first)) ≡ b
        → has r (cond b (between n x.last k ∷ xs) (between n n k ∷ x ∷ xs)) ≡ (covers r (between n n k) || has r (x ∷ xs))
    by true e =
        ap (λ t. t || has r xs)
        (covers_joined r n n x.first x.last (omega arith) (eqb-true (n + 1) x.first (and_parts (same_kind k x.is_inheritable) (n + 1 == x.first) e).1) (first_forward x xs order.0))
        ∙ sym (or_behind (covers r (between n n k)) (covers r x) (has r xs))
    by false e = refl

front_has_inheritable : (n r : ℕ) (k : Bool) (xs : List Range) → AreInOrder xs → has_inheritable r (in_front n k xs) ≡ ((k && covers r (between n n k)) || has_inheritable r xs)
front_has_inheritable n r k [] order = refl
front_has_inheritable n r k (x ∷ xs) order = by (same_kind k x.is_inheritable && (n + 1 == x.first)) refl
  where
    by : (b : Bool) → (same_kind k x.is_inheritable && (n + 1 == x.first)) ≡ b
        → has_inheritable r (cond b (between n x.last k ∷ xs) (between n n k ∷ x ∷ xs)) ≡ ((k && covers r (between n n k)) || has_inheritable r (x ∷ xs))
    by true e =
        let parts = and_parts (same_kind k x.is_inheritable) (n + 1 == x.first) e in
        ap (λ t. t || has_inheritable r xs)
        (and_joined k x.is_inheritable (covers r (between n x.last k)) (covers r (between n n k)) (covers r x) (same_kind_is k x.is_inheritable parts.0)
        (covers_joined r n n x.first x.last (omega arith) (eqb-true (n + 1) x.first parts.1) (first_forward x xs order.0)))
        ∙ sym (or_behind (k && covers r (between n n k)) (x.is_inheritable && covers r x) (has_inheritable r xs))
    by false e = refl

-- ---- revision by revision

-- what is inheritable is merged
abbrev Follows : (is_merged is_inheritable : ℕ → Bool) → Type 0
Follows f g = (r : ℕ) → f r ≡ false → g r ≡ false

-- the ranges have what is merged of so many revisions
pub record IsFormed (f g : ℕ → Bool) (count n : ℕ) (xs : List Range) : Type 0 where
  pub order : AreInOrder xs
  pub from : IsFrom n xs
  pub same : (r : ℕ) → n ≤ r → r < n + count → has r xs ≡ f r
  pub same_inheritable : (r : ℕ) → n ≤ r → r < n + count → has_inheritable r xs ≡ g r
  pub past : (r : ℕ) → n + count ≤ r → has r xs ≡ false
  pub past_inheritable : (r : ℕ) → n + count ≤ r → has_inheritable r xs ≡ false

-- a test of all revisions from here on, from here and from what is after
stepped : (h e : ℕ → Bool) (n m : ℕ) → h n ≡ e n → ((r : ℕ) → n + 1 ≤ r → r < m → h r ≡ e r) → (r : ℕ) → n ≤ r → r < m → h r ≡ e r
stepped h e n m here later r le lt = by (cases_lt n r)
  where
    by : (n < r) ⊎ (r ≤ n) → h r ≡ e r
    by (inl after) = later r (omega (arith, after)) lt
    by (inr before) = let at : n ≡ r = omega (arith, le, before) in ap h (sym at) ∙ here ∙ ap e at

front_formed : (f g : ℕ → Bool) (count n : ℕ) (xs : List Range) → f n ≡ true → IsFormed f g count (n + 1) xs → IsFormed f g (suc count) n (in_front n (g n) xs)
front_formed f g count n xs merged is = record {
  order = front_order n (g n) xs is.order is.from;
  from = front_from n (g n) xs;
  same =
      stepped (λ r. has r (in_front n (g n) xs)) f n (n + suc count)
      (front_has n n (g n) xs is.order ∙ or_left (covers n one) (has n xs) (covers_within n one (omega arith) (omega arith)) ∙ sym merged)
      (λ r le lt. front_has n r (g n) xs is.order ∙ ap (λ t. t || has r xs) (covers_past r one (omega (arith, le))) ∙ is.same r le (omega (arith, lt)));
  same_inheritable =
      stepped (λ r. has_inheritable r (in_front n (g n) xs)) g n (n + suc count)
      (front_has_inheritable n n (g n) xs is.order
      ∙ ap (λ t. (g n && t) || has_inheritable n xs) (covers_within n one (omega arith) (omega arith))
      ∙ ap (λ t. t || has_inheritable n xs) (and_true (g n))
      ∙ ap (λ t. g n || t) (has_inheritable_before n xs is.order is.from) ∙ or_false (g n))
      (λ r le lt.
      front_has_inheritable n r (g n) xs is.order ∙ ap (λ t. t || has_inheritable r xs) (not_inheritably r one (covers_past r one (omega (arith, le))))
      ∙ is.same_inheritable r le (omega (arith, lt)));
  past = λ r le.
      front_has n r (g n) xs is.order ∙ ap (λ t. t || has r xs) (covers_past r one (omega (arith, le))) ∙ is.past r (omega (arith, le));
  past_inheritable = λ r le.
      front_has_inheritable n r (g n) xs is.order ∙ ap (λ t. t || has_inheritable r xs) (not_inheritably r one (covers_past r one (omega (arith, le))))
      ∙ is.past_inheritable r (omega (arith, le));
}
  where
    one : Range
    one = between n n (g n)

passed_formed : (f g : ℕ → Bool) (count n : ℕ) (xs : List Range) → Follows f g → f n ≡ false → IsFormed f g count (n + 1) xs → IsFormed f g (suc count) n xs
passed_formed f g count n xs follows none is = record {
  order = is.order;
  from = from_less n (n + 1) xs (omega arith) is.from;
  same =
      stepped (λ r. has r xs) f n (n + suc count) (has_before n xs is.order is.from ∙ sym none)
      (λ r le lt. is.same r le (omega (arith, lt)));
  same_inheritable =
      stepped (λ r. has_inheritable r xs) g n (n + suc count) (has_inheritable_before n xs is.order is.from ∙ sym (follows n none))
      (λ r le lt. is.same_inheritable r le (omega (arith, lt)));
  past = λ r le. is.past r (omega (arith, le));
  past_inheritable = λ r le. is.past_inheritable r (omega (arith, le));
}

all_formed : (f g : ℕ → Bool) (count n : ℕ) → Follows f g → IsFormed f g count n (ranges_from f g count n)
all_formed f g zero n follows = record {
  order = tt;
  from = tt;
  same = λ r le lt. absurd (omega (arith, le, lt));
  same_inheritable = λ r le lt. absurd (omega (arith, le, lt));
  past = λ r le. refl;
  past_inheritable = λ r le. refl;
}
all_formed f g (suc count) n follows = by (f n) refl (all_formed f g count (n + 1) follows)
  where
    by : (b : Bool) → f n ≡ b → IsFormed f g count (n + 1) (ranges_from f g count (n + 1))
        → IsFormed f g (suc count) n (cond b (in_front n (g n) (ranges_from f g count (n + 1))) (ranges_from f g count (n + 1)))
    by true merged deeper = front_formed f g count n (ranges_from f g count (n + 1)) merged deeper
    by false none deeper = passed_formed f g count n (ranges_from f g count (n + 1)) follows none deeper

-- ---- what sources have of a path

inheritably_has : (r : ℕ) (xs : List Range) → has r xs ≡ false → has_inheritable r xs ≡ false
inheritably_has r [] e = refl
inheritably_has r (x ∷ xs) e = by (inheritably_has r xs) (covers r x) refl e
  where
    by : (has r xs ≡ false → has_inheritable r xs ≡ false) → (b : Bool) → covers r x ≡ b → (b || has r xs) ≡ false → has_inheritable r (x ∷ xs) ≡ false
    by deeper true is e = absurd (false≢true (sym e))
    by deeper false is e = ap (λ t. t || has_inheritable r xs) (not_inheritably r x is) ∙ deeper e

inheritably_merged : (p : PathValue) (r : ℕ) (ss : List SourceValue) → merges ss p r ≡ false → merges_inheritably ss p r ≡ false
inheritably_merged p r [] e = refl
inheritably_merged p r (s ∷ ss) e = by (inheritably_merged p r ss) (same_path s.path p) (has r s.ranges) refl e
  where
    by : (merges ss p r ≡ false → merges_inheritably ss p r ≡ false) → (b h : Bool) → has r s.ranges ≡ h → ((b && h) || merges ss p r) ≡ false
        → ((b && has_inheritable r s.ranges) || merges_inheritably ss p r) ≡ false
    by deeper false h is e = deeper e
    by deeper true true is e = absurd (false≢true (sym e))
    by deeper true false is e = ap (λ t. t || merges_inheritably ss p r) (inheritably_has r s.ranges is) ∙ deeper e

source_formed : (ss : List SourceValue) (p : PathValue) → IsFormed (merges ss p) (merges_inheritably ss p) (revisions_end ss) 0 (normal_source ss p).ranges
source_formed ss p = all_formed (merges ss p) (merges_inheritably ss p) (revisions_end ss) 0 (λ r e. inheritably_merged p r ss e)

none_beyond : (ss : List SourceValue) (p : PathValue) (r : ℕ) → revisions_end ss ≤ r → merges ss p r ≡ false
none_beyond ss p r le = by (merges ss p r) refl
  where
    by : (b : Bool) → merges ss p r ≡ b → b ≡ false
    by true e = let lt : r < revisions_end ss = merged_within p r ss e in absurd (omega (arith, le, lt))
    by false e = refl

has_merged : (ss : List SourceValue) (p : PathValue) (r : ℕ) → has r (normal_source ss p).ranges ≡ merges ss p r
has_merged ss p r = by (cases_lt r (revisions_end ss))
  where
    by : (r < revisions_end ss) ⊎ (revisions_end ss ≤ r) → has r (normal_source ss p).ranges ≡ merges ss p r
    by (inl lt) = (source_formed ss p).same r (omega arith) (omega (arith, lt))
    by (inr le) = (source_formed ss p).past r (omega (arith, le)) ∙ sym (none_beyond ss p r le)

has_merged_inheritably : (ss : List SourceValue) (p : PathValue) (r : ℕ) → has_inheritable r (normal_source ss p).ranges ≡ merges_inheritably ss p r
has_merged_inheritably ss p r = by (cases_lt r (revisions_end ss))
  where
    by : (r < revisions_end ss) ⊎ (revisions_end ss ≤ r) → has_inheritable r (normal_source ss p).ranges ≡ merges_inheritably ss p r
    by (inl lt) = (source_formed ss p).same_inheritable r (omega arith) (omega (arith, lt))
    by (inr le) =
        (source_formed ss p).past_inheritable r (omega (arith, le)) ∙ sym (inheritably_merged p r ss (none_beyond ss p r le))

-- ---- path by path

paths_mapped : (f : PathValue → SourceValue) (ps : List PathValue) → ((p : PathValue) → (f p).path ≡ p) → paths_in (map f ps) ≡ ps
paths_mapped f [] is = refl
paths_mapped f (p ∷ ps) is = let rest : paths_in (map f ps) ≡ ps = paths_mapped f ps is in λ i. is p i ∷ rest i

-- sources without ranges have nothing
none_in : (q : Range → Bool) (xs : List Range) → nat_lt 0 (length xs) ≡ false → list_any q xs ≡ false
none_in q [] e = refl
none_in q (x ∷ xs) e = absurd (false≢true (sym e ∙ lt-ltb 0 (length (x ∷ xs)) (omega arith)))

any_kept : (q : Range → Bool) (p : PathValue) (ss : List SourceValue) → any_at q p (filter has_ranges ss) ≡ any_at q p ss
any_kept q p [] = refl
any_kept q p (s ∷ ss) = by (has_ranges s) refl (any_kept q p ss)
  where
    by : (b : Bool) → has_ranges s ≡ b → any_at q p (filter has_ranges ss) ≡ any_at q p ss
        → any_at q p (cond b (s ∷ filter has_ranges ss) (filter has_ranges ss)) ≡ ((same_path s.path p && list_any q s.ranges) || any_at q p ss)
    by true e deeper = ap (λ b. (same_path s.path p && list_any q s.ranges) || b) deeper
    by false e deeper =
        deeper
        ∙ sym (ap (λ b. b || any_at q p ss) (ap (λ t. same_path s.path p && t) (none_in q s.ranges e) ∙ and_none (same_path s.path p)))

-- of a path among these they have what its source has
any_mapped : (q : Range → Bool) (f : PathValue → SourceValue) (p : PathValue) (ps : List PathValue) → ((p : PathValue) → (f p).path ≡ p)
    → any_at q p (map f ps) ≡ (is_among ps p && list_any q (f p).ranges)
any_mapped q f p [] is = refl
any_mapped q f p (k ∷ ps) is =
    ap (λ t. (t && list_any q (f k).ranges) || any_at q p (map f ps)) (ap (λ x. same_path x p) (is k) ∙ same_path_sym k p)
    ∙ ap (λ b. (same_path p k && list_any q (f k).ranges) || b) (any_mapped q f p ps is)
    ∙ by (same_path p k) refl
  where
    once : (a b : Bool) → (b || (a && b)) ≡ b
    once a true = refl
    once true false = refl
    once false false = refl

    by : (b : Bool) → same_path p k ≡ b → ((b && list_any q (f k).ranges) || (is_among ps p && list_any q (f p).ranges)) ≡ ((b || is_among ps p) && list_any q (f p).ranges)
    by true e =
        ap (λ x. list_any q (f x).ranges || (is_among ps p && list_any q (f p).ranges)) (sym (same_path_is p k e))
        ∙ once (is_among ps p) (list_any q (f p).ranges)
    by false e = refl

some_kept : (ss : List SourceValue) → All (λ s. 0 < length s.ranges) (filter has_ranges ss)
some_kept [] = All-nil (λ s. 0 < length s.ranges)
some_kept (s ∷ ss) = by (has_ranges s) refl (some_kept ss)
  where
    by : (b : Bool) → has_ranges s ≡ b → All (λ s. 0 < length s.ranges) (filter has_ranges ss) → All (λ s. 0 < length s.ranges) (cond b (s ∷ filter has_ranges ss) (filter has_ranges ss))
    by true e deeper = All-cons (λ s. 0 < length s.ranges) s (filter has_ranges ss) (ltb-true 0 (length s.ranges) e) deeper
    by false e deeper = deeper

-- the path of what is merged is one of the paths
merged_there : (ss : List SourceValue) (p : PathValue) (r : ℕ) → (is_among (paths_in_order ss) p && merges ss p r) ≡ merges ss p r
merged_there ss p r = by (merges ss p r) refl
  where
    by : (b : Bool) → merges ss p r ≡ b → (is_among (paths_in_order ss) p && b) ≡ b
    by true e = and_from (is_among (paths_in_order ss) p) true (merged_among p r ss e) refl
    by false e = and_none (is_among (paths_in_order ss) p)

inheritably_there : (ss : List SourceValue) (p : PathValue) (r : ℕ) → (is_among (paths_in_order ss) p && merges_inheritably ss p r) ≡ merges_inheritably ss p r
inheritably_there ss p r = by (merges ss p r) refl
  where
    by : (b : Bool) → merges ss p r ≡ b → (is_among (paths_in_order ss) p && merges_inheritably ss p r) ≡ merges_inheritably ss p r
    by true e = ap (λ t. t && merges_inheritably ss p r) (merged_among p r ss e)
    by false e =
        let none : merges_inheritably ss p r ≡ false = inheritably_merged p r ss e in
        ap (λ t. is_among (paths_in_order ss) p && t) none ∙ and_none (is_among (paths_in_order ss) p) ∙ sym none

all_ordered : (sources : List SourceValue) (ps : List PathValue) → All (λ s. AreInOrder s.ranges) (map (normal_source sources) ps)
all_ordered sources [] = All-nil (λ s. AreInOrder s.ranges)
all_ordered sources (p ∷ ps) =
    All-cons (λ s. AreInOrder s.ranges) (normal_source sources p) (map (normal_source sources) ps) (source_formed sources p).order (all_ordered sources ps)

pub is_formed : (sources : List SourceValue) → IsNormalFormOf sources (normal_form sources)
unfolding normal_form
is_formed sources = record {
  is_normal = record {
    paths =
        subst (IsStrictlySortedBy path_cmp)
        (sym (ap paths_in (filter_mapped (normal_source sources) (paths_in_order sources)) ∙ paths_mapped (normal_source sources) (filter test (paths_in_order sources)) (λ p. refl)))
        (IsStrictlySortedBy-filter path_cmp test (paths_in_order sources) (paths_sorted sources));
    ranges = All-filter has_ranges (λ s. AreInOrder s.ranges) (map (normal_source sources) (paths_in_order sources)) (all_ordered sources (paths_in_order sources));
    some = some_kept (map (normal_source sources) (paths_in_order sources));
  };
  same = λ p r.
      any_kept (covers r) p (map (normal_source sources) (paths_in_order sources))
      ∙ any_mapped (covers r) (normal_source sources) p (paths_in_order sources) (λ q. refl)
      ∙ ap (λ t. is_among (paths_in_order sources) p && t) (has_merged sources p r)
      ∙ merged_there sources p r;
  same_inheritable = λ p r.
      any_kept (λ x. x.is_inheritable && covers r x) p (map (normal_source sources) (paths_in_order sources))
      ∙ any_mapped (λ x. x.is_inheritable && covers r x) (normal_source sources) p (paths_in_order sources) (λ q. refl)
      ∙ ap (λ t. is_among (paths_in_order sources) p && t) (has_merged_inheritably sources p r)
      ∙ inheritably_there sources p r;
}
  where
    test : PathValue → Bool
    test p = has_ranges (normal_source sources p)
