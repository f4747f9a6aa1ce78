-- The last graft of which something is so, by its place in the order.
use Rattle.std.proofs.Common.{◌≡◌, ℕ, zero, suc, ◌+◌, ◌-◌, ◌<◌, ◌≤◌, arith, Bool, true, false, cond, ◌&&◌, ◌||◌, List, [], ◌∷◌, ◌++◌, length, take, drop}
use Rattle.std.proofs.Common.{get_or, Option, Some, None, refl, sym, ap, subst, ◌∙◌, ◌⊎◌, inl, inr, ⊎_elim}
use Rattle.std.proofs.{lemmas.Bool.{false≢true, or_from, or_left, or_right, ltb-true, ltb-false, lt-ltb}, lemmas.List.{length_push, length-take-le, take_more}}
use Rattle.std.proofs.{lemmas.List.Folds.list_any_at, lemmas.Map.Keys.{sorted_head, sorted_tail}, lemmas.Map.Made.is_some-lookup}
use Rattle.std.proofs.lemmas.Option.{get_or_from_slice_get, slice_get_read, slice_get_within}
use Rattle.std.specs.{BTreeMap.is_at, BTreeMap.Range.range_contains, Cmp.both_ways, List.{AllByRecursion, filter, list_any}, List.Sorted.IsStrictlySortedBy}
use Rattle.std.specs.{Map.keys_of, Option.option_map_or, Ordering.{is_eq, is_le, is_lt}, Prelude.{is_some, nat_lt, if◌then◌else◌, not, slice_get, fold}}
use Rattle.std.specs.{declared.cmp.Ordering.Ordering, declared.cmp.Ordering.TheVariants.{Less, Equal, Greater}}
use Rattle.std.specs.declared.ops.Bound.TheVariants.{Excluded, Unbounded}
use Rattle.svnpath.specs.PathLaws.{at_is, at_is_same, between_under, from_under, same_path_is, same_path_refl}
use Rattle.svnpath.specs.Paths.{Component, is_at_or_under, path_cmp, path_ties, PathValue, same_path}
use Rattle.repo_api.specs.Trees.{Tree}
use Rattle.drive_rules.specs.Scopes.{below, HoldsTogether}
use Rattle.drive_rules.proofs.Entries.{below_under}
use Rattle.reporter.specs.{Finding.{AreFound, IsLastOf, IsLastAt, IsLastAbove, later, place_of}, declared.graft.Graft.Graft}
use Rattle.reporter.specs.Reported.{has_place, is_surely_placed, origin, origin_after, reported}
use Rattle.reporter.proofs.Deciding.{AreLater, Shows, last_placed, last_surely, later_elsewhere, later_unplaced, none_shown, under_length}

-- ---- a list, element by element

there_is : {A : Type 0} (xs : List A) (i : ℕ) → i < length xs → (x : A) × (slice_get xs i ≡ Some x)
there_is [] i lt = absurd (omega (lt, arith))
there_is (x ∷ xs) zero lt = (x, refl)
there_is (x ∷ xs) (suc i) lt = there_is xs i (omega (lt, arith))

at_place : {A : Type 0} (xs : List A) (i : ℕ) (x : A) → i < length xs → x ≡ get_or xs i x → slice_get xs i ≡ Some x
at_place xs i x lt is = slice_get_read xs (length xs) i x refl lt is

-- a test of a list, by the element that passes it
any_at : {A : Type 0} (P : A → Bool) (xs : List A) (i : ℕ) (x : A) → slice_get xs i ≡ Some x → P x ≡ true → list_any P xs ≡ true
any_at P xs i x at so =
    list_any_at P xs i x (slice_get_within xs i x at) (ap P (get_or_from_slice_get xs i x x at) ∙ so)

one_passes : {A : Type 0} (P : A → Bool) (xs : List A) → list_any P xs ≡ true → (i : ℕ) × (x : A) × (slice_get xs i ≡ Some x) × (P x ≡ true)
one_passes P [] e = absurd (false≢true e)
one_passes {A} P (x ∷ xs) e = by (P x) refl e (one_passes P xs)
  where
    by : (b : Bool) → P x ≡ b → (b || list_any P xs) ≡ true
        → (list_any P xs ≡ true → (i : ℕ) × (y : A) × (slice_get xs i ≡ Some y) × (P y ≡ true))
        → (i : ℕ) × (y : A) × (slice_get (x ∷ xs) i ≡ Some y) × (P y ≡ true)
    by true is f rest = (0, x, refl, is)
    by false is f rest = let other = rest f in (suc other.0, other.1, other.2, other.3)

module _ {A : Type 0} where
  before_end : (xs : List A) (x : A) (i : ℕ) → i < length xs → slice_get (xs ++ x ∷ []) i ≡ slice_get xs i
  before_end [] x i lt = absurd (omega (lt, arith))
  before_end (y ∷ xs) x zero lt = refl
  before_end (y ∷ xs) x (suc i) lt = before_end xs x i (omega (lt, arith))

  at_end : (xs : List A) (x : A) → slice_get (xs ++ x ∷ []) (length xs) ≡ Some x
  at_end [] x = refl
  at_end (y ∷ xs) x = at_end xs x

  -- what stands in one place more stands before, or is the last
  split_end : (xs : List A) (x : A) (i : ℕ) (y : A) → slice_get (xs ++ x ∷ []) i ≡ Some y
      → ((i < length xs) × (slice_get xs i ≡ Some y)) ⊎ ((i ≡ length xs) × (x ≡ y))
  split_end xs x i y at = by (nat_lt i (length xs)) refl
    where
      by : (b : Bool) → nat_lt i (length xs) ≡ b → ((i < length xs) × (slice_get xs i ≡ Some y)) ⊎ ((i ≡ length xs) × (x ≡ y))
      by true e = let lt = ltb-true i (length xs) e in inl (lt, sym (before_end xs x i lt) ∙ at)
      by false e =
          let ge = ltb-false i (length xs) e in
          let inside = slice_get_within (xs ++ x ∷ []) i y at in
          let long = length_push xs x in
          let same : i ≡ length xs = omega (ge, inside, long, arith) in
          inr (same, cc (sym (at_end xs x) ∙ ap (λ k. slice_get (xs ++ x ∷ []) k) (sym same) ∙ at))

-- ---- down to the last at or above a path

module _ (trees : ℕ → Tree) (top : PathValue) (gs : List Graft) (count : ℕ) (p : PathValue) where
  -- none of the grafts from m up to n is at or above the path, so those before m say what is there
  down_to : (m n : ℕ) → AreLater trees top gs count p n → n ≤ length gs → m ≤ n
      → ((i : ℕ) (g : Graft) → m ≤ i → i < n → slice_get gs i ≡ Some g → is_at_or_under p g.path ≡ false)
      → AreLater trees top gs count p m
  down_to m zero behind le low none =
      let same : 0 ≡ m = omega (low, arith) in subst (AreLater trees top gs count p) same behind
  down_to m (suc n) behind le low none = by (nat_lt n m) refl (down_to m n)
    where
      one_less : suc n - 1 ≡ n
      one_less = omega arith

      by : (b : Bool) → nat_lt n m ≡ b
          → (AreLater trees top gs count p n → n ≤ length gs → m ≤ n
          → ((i : ℕ) (g : Graft) → m ≤ i → i < n → slice_get gs i ≡ Some g → is_at_or_under p g.path ≡ false)
          → AreLater trees top gs count p m)
          → AreLater trees top gs count p m
      by true e deeper =
          let lt = ltb-true n m e in
          let same : suc n ≡ m = omega (low, lt, arith) in
          subst (AreLater trees top gs count p) same behind
      by false e deeper =
          let ge = ltb-false n m e in
          let last = there_is gs n (omega (le, arith)) in
          let is : last.0 ≡ get_or gs (suc n - 1) last.0 =
          subst (λ (k : ℕ). last.0 ≡ get_or gs k last.0) (sym one_less) (sym (get_or_from_slice_get gs n last.0 last.0 last.1)) in
          deeper
          (subst (AreLater trees top gs count p) one_less
          (later_elsewhere trees top gs count p (suc n) last.0 behind (omega arith) le is (none n last.0 ge (omega arith) last.1)))
          (omega (le, arith)) ge (λ i g ge lt is. none i g ge (omega (lt, arith)) is)

-- ---- the later of two

module _ (gs : List Graft) (count : ℕ) (P Q R : Graft → Bool) (is : (g : Graft) → R g ≡ (P g || Q g)) where
  neither : (g : Graft) → P g ≡ false → Q g ≡ false → R g ≡ false
  neither g un none = is g ∙ or_from (P g) (Q g) un none

  one_way : (g : Graft) → P g ≡ true → R g ≡ true
  one_way g so = is g ∙ or_left (P g) (Q g) so

  other_way : (g : Graft) → Q g ≡ true → R g ≡ true
  other_way g so = is g ∙ or_right (P g) (Q g) so

  later_of : (a b : Option ℕ) → IsLastOf P gs count a → IsLastOf Q gs count b → IsLastOf R gs count (later a b)
  later_of None None none free = λ i g lt at. neither g (none i g lt at) (free i g lt at)
  later_of None (Some m) none last =
      (last.0, last.1, (λ g at. other_way g (last.2 g at)), (λ i g gt lt at. neither g (none i g lt at) (last.3 i g gt lt at)))
  later_of (Some n) None last free =
      (last.0, last.1, (λ g at. one_way g (last.2 g at)), (λ i g gt lt at. neither g (last.3 i g gt lt at) (free i g lt at)))
  later_of (Some n) (Some m) one two = by (nat_lt n m) refl
    where
      by : (b : Bool) → nat_lt n m ≡ b → IsLastOf R gs count (Some (if b then m else n))
      by true e =
          let less = ltb-true n m e in (
            two.0,
            two.1,
            (λ g at. other_way g (two.2 g at)),
            (λ i g gt lt at. neither g (one.3 i g (omega (gt, less, arith)) lt at) (two.3 i g gt lt at)),
          )
      by false e =
          let ge = ltb-false n m e in (
            one.0,
            one.1,
            (λ g at. one_way g (one.2 g at)),
            (λ i g gt lt at. neither g (one.3 i g gt lt at) (two.3 i g (omega (gt, ge, arith)) lt at)),
          )

of_same : (gs : List Graft) (count : ℕ) (P Q : Graft → Bool) (a : Option ℕ) → ((g : Graft) → P g ≡ Q g)
    → IsLastOf P gs count a → IsLastOf Q gs count a
of_same gs count P Q None is none = λ i g lt at. sym (is g) ∙ none i g lt at
of_same gs count P Q (Some n) is last =
    (last.0, last.1, (λ g at. sym (is g) ∙ last.2 g at), (λ i g gt lt at. sym (is g) ∙ last.3 i g gt lt at))

-- ---- at or above a path, by the number of names

abbrev pub over : PathValue → ℕ → Graft → Bool
over p k g = is_at_or_under p g.path && nat_lt (length g.path) k

pub or_nothing : (b : Bool) → (b || false) ≡ b
or_nothing true = refl
or_nothing false = refl

-- those with one name more stand at the path of so many names
over_more : (p : PathValue) (k : ℕ) (g : Graft) → k ≤ length p → over p (k + 1) g ≡ (over p k g || same_path (take k p) g.path)
over_more p k g le = by (same_path (take k p) g.path) refl
  where
    long : length (take k p) ≡ k
    long = length-take-le k p le

    by : (b : Bool) → same_path (take k p) g.path ≡ b → over p (k + 1) g ≡ (over p k g || b)
    by true e =
        subst (λ (q : PathValue). (is_at_or_under p q && nat_lt (length q) (k + 1)) ≡ true) (same_path_is (take k p) g.path e)
        (ap (λ n. same_path (take k p) (take n p) && nat_lt (length (take k p)) (k + 1)) long
        ∙ ap (λ b. b && nat_lt (length (take k p)) (k + 1)) (same_path_refl (take k p))
        ∙ lt-ltb (length (take k p)) (k + 1) (omega (long, arith)))
        ∙ sym (or_right (over p k g) true refl)
    by false e = up (is_at_or_under p g.path) refl
      where
        apart : same_path g.path (take (length g.path) p) ≡ true → length g.path ≡ k → ⊥
        apart is same =
            let whole : g.path ≡ take k p = same_path_is g.path (take (length g.path) p) is ∙ ap (λ n. take n p) same in
            false≢true (sym e ∙ ap (λ (q : PathValue). same_path (take k p) q) whole ∙ same_path_refl (take k p))

        fewer : (length g.path ≡ k → ⊥) → nat_lt (length g.path) (k + 1) ≡ nat_lt (length g.path) k
        fewer other =
            both_ways (nat_lt (length g.path) (k + 1)) (nat_lt (length g.path) k)
            (λ more. cut (nat_lt (length g.path) k) refl (ltb-true (length g.path) (k + 1) more))
            (λ less. let lt = ltb-true (length g.path) k less in lt-ltb (length g.path) (k + 1) (omega (lt, arith)))
          where
            cut : (b : Bool) → nat_lt (length g.path) k ≡ b → length g.path < k + 1 → b ≡ true
            cut true e more = refl
            cut false e more = let ge = ltb-false (length g.path) k e in absurd (other (omega (ge, more, arith)))

        up : (u : Bool) → is_at_or_under p g.path ≡ u → (u && nat_lt (length g.path) (k + 1)) ≡ ((u && nat_lt (length g.path) k) || false)
        up false is = refl
        up true is = fewer (apart is) ∙ sym (or_nothing (nat_lt (length g.path) k))

module _ (gs : List Graft) (count : ℕ) (p above : PathValue) (k : ℕ) (last found : Option ℕ)
    (is : above ≡ take k p) (so : IsLastOf (over p k) gs count last) (at : IsLastAt above gs count found) where
  pub last_more : k ≤ length p → IsLastOf (over p (k + 1)) gs count (later last found)
  last_more le =
      later_of gs count (over p k) (λ g. same_path (take k p) g.path) (over p (k + 1)) (λ g. over_more p k g le) last found so
      (subst (λ (q : PathValue). IsLastAt q gs count found) is at)

  pub last_all : k ≡ length p → IsLastAbove p gs count (later last found)
  last_all all = of_same gs count (over p (k + 1)) (λ g. is_at_or_under p g.path) (later last found) whole (last_more (omega (all, arith)))
    where
      whole : (g : Graft) → over p (k + 1) g ≡ is_at_or_under p g.path
      whole g = up (is_at_or_under p g.path) refl
        where
          up : (u : Bool) → is_at_or_under p g.path ≡ u → (u && nat_lt (length g.path) (k + 1)) ≡ u
          up false e = refl
          up true e = let short = under_length g.path p e in lt-ltb (length g.path) (k + 1) (omega (short, all, arith))

-- the path of one name more
pub next_above : (p items above next : PathValue) (k : ℕ) (name copy : Component) → items ≡ p → k < length items → name ≡ get_or items k name → copy ≡ name
    → above ≡ take k p → next ≡ above ++ copy ∷ [] → next ≡ take (k + 1) p
next_above p items above next k name copy whole lt is same up more =
    more
    ∙ ap (λ c. above ++ c ∷ []) (same ∙ is)
    ∙ ap (λ a. a ++ get_or items k name ∷ []) (up ∙ ap (take k) (sym whole))
    ∙ sym (take_more items k name lt)
    ∙ ap (take (k + 1)) whole

-- ---- back to the one before it at the same path

pub before_it : (gs : List Graft) (newest : List (PathValue × ℕ)) (older : List (Option ℕ)) → AreFound gs newest older
    → (p : PathValue) (m place : ℕ) (o : Option ℕ) → IsLastAt p gs m (Some place) → o ≡ get_or older place o → IsLastAt p gs place o
before_it gs newest older found p m place o last is =
    let at = there_is gs place last.1 in
    let short : place < length older = let long = found.count in let lt = last.1 in omega (long, lt, arith) in
    subst (λ (q : PathValue). IsLastAt q gs place o) (sym (same_path_is p at.0.path (last.2 at.0 at.1)))
    (found.before place at.0 o at.1 (at_place older place o short is))

pub smaller : (gs : List Graft) (p : PathValue) (place : ℕ) (o f : Option ℕ) → IsLastAt p gs place o → f ≡ Some place
    → option_map_or (λ i. i + 1) o 0 < option_map_or (λ i. i + 1) f 0
smaller gs p place None None last is = absurd (cc is)
smaller gs p place None (Some i) last is = omega arith
smaller gs p place (Some n) None last is = absurd (cc is)
smaller gs p place (Some n) (Some i) last is =
    let lt = last.0 in let same : i ≡ place = cc is in omega (lt, same, arith)

-- ---- the index of one graft more

module _ (gs : List Graft) (g : Graft) where
  abbrev more : List Graft
  more = gs ++ g ∷ []

  -- what comes behind so many changes nothing
  still_last : (p : PathValue) (n : ℕ) (o : Option ℕ) → n ≤ length gs → IsLastAt p gs n o → IsLastAt p more n o
  still_last p n None le last = λ i x lt at. last i x lt (sym (before_end gs g i (omega (lt, le, arith))) ∙ at)
  still_last p n (Some m) le last =
      let long = length_push gs g in
      let inside = last.1 in (
        last.0,
        omega (long, inside, arith),
        (λ x at. last.2 x (sym (before_end gs g m inside) ∙ at)),
        (λ i x gt lt at. last.3 i x gt lt (sym (before_end gs g i (omega (lt, le, arith))) ∙ at)),
      )

  swapped : (p q : PathValue) → same_path p q ≡ true → same_path q p ≡ true
  swapped p q e = subst (λ (x : PathValue). same_path x p ≡ true) (same_path_is p q e) (same_path_refl p)

  -- a graft at the path is the last, and any other leaves it
  last_with : (p : PathValue) (o : Option ℕ) → IsLastAt p gs (length gs) o
      → IsLastAt p more (length more) (if same_path g.path p then Some (length gs) else o)
  last_with p o last = by (same_path g.path p) refl o last
    where
      long : length more ≡ length gs + 1
      long = length_push gs g

      other : same_path g.path p ≡ false → same_path p g.path ≡ false
      other e = both_ways (same_path p g.path) false (λ is. sym e ∙ swapped p g.path is) (λ e. absurd (false≢true e))

      by : (b : Bool) → same_path g.path p ≡ b → (o : Option ℕ) → IsLastAt p gs (length gs) o
          → IsLastAt p more (length more) (if b then Some (length gs) else o)
      by true e o last = (
        omega (long, arith),
        omega (long, arith),
        (λ x at. ⊎_elim (λ before. absurd (let lt = before.0 in omega (lt, arith)))
            (λ end. subst (λ (y : Graft). same_path p y.path ≡ true) end.1 (swapped g.path p e)) (split_end gs g (length gs) x at)),
        (λ i x gt lt at. absurd (omega (long, gt, lt, arith))),
      )
      by false e None last =
          λ i x lt at. ⊎_elim (λ before. last i x before.0 before.1)
          (λ end. subst (λ (y : Graft). same_path p y.path ≡ false) end.1 (other e)) (split_end gs g i x at)
      by false e (Some m) last =
          let inside = last.1 in (
            omega (long, inside, arith),
            omega (long, inside, arith),
            (λ x at. last.2 x (sym (before_end gs g m inside) ∙ at)),
            (λ i x gt lt at. ⊎_elim (λ before. last.3 i x gt before.0 before.1)
                (λ end. subst (λ (y : Graft). same_path p y.path ≡ false) end.1 (other e)) (split_end gs g i x at)),
          )

  pub found_more : (newest after : List (PathValue × ℕ)) (older older_after : List (Option ℕ)) → AreFound gs newest older
      → ((q : PathValue) → place_of after q ≡ (if same_path g.path q then Some (length older) else place_of newest q))
      → older_after ≡ older ++ place_of newest g.path ∷ [] → AreFound more after older_after
  found_more newest after older older_after found put pushed = record {
    count = ap length pushed ∙ length_push older (place_of newest g.path) ∙ ap (λ n. n + 1) found.count ∙ sym (length_push gs g);
    last = λ p. subst (λ o. IsLastAt p more (length more) o)
        (ap (λ n. if same_path g.path p then Some n else place_of newest p) (sym found.count) ∙ sym (put p))
        (last_with p (place_of newest p) (found.last p));
    before = λ i x o at is.
        let is_now : slice_get (older ++ place_of newest g.path ∷ []) i ≡ Some o = ap (λ os. slice_get os i) (sym pushed) ∙ is in
        ⊎_elim (λ here.
        let lt = here.0 in
        let count = found.count in
        let early : i < length older = omega (lt, count, arith) in
        still_last x.path i o (omega (lt, arith))
        (found.before i x o here.1 (sym (before_end older (place_of newest g.path) i early) ∙ is_now)))
        (λ end.
        let late : i ≡ length older = end.0 ∙ sym found.count in
        let of : place_of newest g.path ≡ o =
        cc (sym (at_end older (place_of newest g.path)) ∙ ap (λ k. slice_get (older ++ place_of newest g.path ∷ []) k) (sym late) ∙ is_now) in
        subst (λ (y : Graft). IsLastAt y.path more i o) end.1
        (subst (λ k. IsLastAt g.path more k o) (sym end.0)
        (subst (λ q. IsLastAt g.path more (length gs) q) of
        (still_last g.path (length gs) (place_of newest g.path) (omega arith) (found.last g.path)))))
        (split_end gs g i x at);
  }

-- ---- beneath a path

-- what stands beneath a path is behind it, at or under it
below_is : (p q : PathValue) → below p q ≡ (is_lt (path_cmp p q) && is_at_or_under q p)
below_is p q = ap (λ b. is_at_or_under q p && not b) (path_ties p q) ∙ by (path_cmp p q) refl (is_at_or_under q p) refl
  where
    by : (o : Ordering) → path_cmp p q ≡ o → (u : Bool) → is_at_or_under q p ≡ u → (u && not (is_eq o)) ≡ (is_lt o && u)
    by Less is true up = refl
    by Less is false up = refl
    by Equal is true up = refl
    by Equal is false up = refl
    by Greater is true up = absurd (false≢true (sym (ap is_le is) ∙ from_under p q up))
    by Greater is false up = refl

abbrev behind : PathValue → PathValue → Bool
behind p q = range_contains path_cmp (Excluded p) Unbounded q

-- whether the first of these paths stands at or under the path
abbrev pub first_under : {X : Type 0} → PathValue → List (PathValue × X) → Bool
first_under p [] = false
first_under p (e ∷ es) = is_at_or_under e.0 p

-- behind a path that does not stand beneath it none does
none_past : {X : Type 0} (p k : PathValue) (es : List (PathValue × X)) → path_cmp p k ≡ Less → is_at_or_under k p ≡ false
    → AllByRecursion (λ y. path_cmp k y ≡ Less) (keys_of es) → list_any (below p) (keys_of es) ≡ false
none_past p k [] less out later = refl
none_past p k (e ∷ es) less out later =
    or_from (below p e.0) (list_any (below p) (keys_of es)) (by (below p e.0) refl) (none_past p k es less out later.1)
  where
    by : (b : Bool) → below p e.0 ≡ b → b ≡ false
    by false is = refl
    by true is = absurd (false≢true (sym out ∙ between_under p k e.0 (ap is_le less) (ap is_le later.0) (below_under p e.0 is)))

first_step : {X : Type 0} (p : PathValue) (e : PathValue × X) (es rest : List (PathValue × X))
    → (path_cmp p e.0 ≡ Less → is_at_or_under e.0 p ≡ false → list_any (below p) (keys_of es) ≡ false)
    → list_any (below p) (keys_of es) ≡ first_under p rest
    → (o : Ordering) → path_cmp p e.0 ≡ o
    → ((is_lt o && is_at_or_under e.0 p) || list_any (below p) (keys_of es)) ≡ first_under p (cond (is_lt o && true) (e ∷ rest) rest)
first_step p e es rest none others Less is = by (is_at_or_under e.0 p) refl
  where
    by : (u : Bool) → is_at_or_under e.0 p ≡ u → (u || list_any (below p) (keys_of es)) ≡ u
    by true up = refl
    by false up = none is up
first_step p e es rest none others Equal is = others
first_step p e es rest none others Greater is = others

-- so the first of what is behind a path tells whether something stands beneath it
pub any_below : {X : Type 0} (p : PathValue) (es : List (PathValue × X)) → IsStrictlySortedBy path_cmp (keys_of es)
    → list_any (below p) (keys_of es) ≡ first_under p (filter (λ e. behind p e.0) es)
any_below p [] sorted = refl
any_below p (e ∷ es) sorted =
    ap (λ b. b || list_any (below p) (keys_of es)) (below_is p e.0)
    ∙ first_step p e es (filter (λ x. behind p x.0) es)
    (λ less out. none_past p e.0 es less out (sorted_head path_cmp e.0 (keys_of es) sorted))
    (any_below p es (sorted_tail path_cmp e.0 (keys_of es) sorted)) (path_cmp p e.0) refl

-- the paths of the grafts are those that have a last graft
module _ (gs : List Graft) (newest : List (PathValue × ℕ)) (older : List (Option ℕ)) (found : AreFound gs newest older) (p : PathValue) where
  found_below : list_any (below p) (keys_of newest) ≡ true → list_any (λ g. below p g.path) gs ≡ true
  found_below some =
      let key = one_passes (below p) (keys_of newest) some in
      by key.1 key.3 (place_of newest key.1) refl
      (is_some-lookup (is_at (path_cmp key.1)) newest
      ∙ any_at (is_at (path_cmp key.1)) (keys_of newest) key.0 key.1 key.2 (at_is_same key.1 key.1 ∙ same_path_refl key.1))
    where
      by : (k : PathValue) → below p k ≡ true → (o : Option ℕ) → place_of newest k ≡ o → is_some (place_of newest k) ≡ true
          → list_any (λ g. below p g.path) gs ≡ true
      by k low None is some = absurd (false≢true (ap is_some (sym is) ∙ some))
      by k low (Some m) is some =
          let last = subst (λ o. IsLastAt k gs (length gs) o) is (found.last k) in
          let at = there_is gs m last.1 in
          any_at (λ (g : Graft). below p g.path) gs m at.0 at.1
          (subst (λ (q : PathValue). below p q ≡ true) (same_path_is k at.0.path (last.2 at.0 at.1)) low)

  below_found : list_any (λ g. below p g.path) gs ≡ true → list_any (below p) (keys_of newest) ≡ true
  below_found some =
      let one = one_passes (λ (g : Graft). below p g.path) gs some in
      by one.0 one.1 one.2 one.3 (place_of newest one.1.path) refl
    where
      by : (i : ℕ) (g : Graft) → slice_get gs i ≡ Some g → below p g.path ≡ true → (o : Option ℕ) → place_of newest g.path ≡ o
          → list_any (below p) (keys_of newest) ≡ true
      by i g at low None is =
          let none = subst (λ o. IsLastAt g.path gs (length gs) o) is (found.last g.path) in
          absurd (false≢true (sym (none i g (slice_get_within gs i g at) at) ∙ same_path_refl g.path))
      by i g at low (Some m) is =
          let some : list_any (is_at (path_cmp g.path)) (keys_of newest) ≡ true =
          sym (is_some-lookup (is_at (path_cmp g.path)) newest) ∙ ap is_some is in
          let key = one_passes (is_at (path_cmp g.path)) (keys_of newest) some in
          any_at (below p) (keys_of newest) key.0 key.1 key.2
          (subst (λ (q : PathValue). below p q ≡ true) (at_is g.path key.1 key.3) low)

  pub beneath_is : list_any (below p) (keys_of newest) ≡ list_any (λ g. below p g.path) gs
  beneath_is = both_ways (list_any (below p) (keys_of newest)) (list_any (λ g. below p g.path) gs) found_below below_found

-- ---- what the last at or above a path says

module _ (trees : ℕ → Tree) (top : PathValue) (gs : List Graft) (first : ℕ) (p : PathValue) (count : ℕ)
    (later_ones : AreLater trees top gs first p count) (few : count ≤ length gs) where
  pub none_at : IsLastAbove p gs count None → Shows trees top gs first p None
  none_at none =
      none_shown trees top gs first p 0 (down_to trees top gs first p 0 count later_ones few (omega arith) (λ i g ge lt is. none i g lt is)) refl

  module _ (place : ℕ) (g : Graft) (last : IsLastAbove p gs count (Some place)) (is : g ≡ get_or gs place g) where
    one_back : place + 1 - 1 ≡ place
    one_back = omega arith

    is_last : g ≡ get_or gs (place + 1 - 1) g
    is_last = subst (λ (k : ℕ). g ≡ get_or gs k g) (sym one_back) is

    over_it : is_at_or_under p g.path ≡ true
    over_it = last.2 g (at_place gs place g last.1 is)

    short : place + 1 ≤ length gs
    short = let lt = last.1 in omega (lt, arith)

    those : AreLater trees top gs first p (place + 1)
    those =
        down_to trees top gs first p (place + 1) count later_ones few (let lt = last.0 in omega (lt, arith))
        (λ i x ge lt at. last.3 i x (omega (ge, arith)) lt at)

    pub surely_at : ((m : ℕ) → HoldsTogether [] (trees m)) → is_surely_placed top g ≡ true → Shows trees top gs first p (Some g)
    surely_at hold sure = last_surely trees top gs first p (place + 1) g hold those (omega arith) short is_last over_it sure

    pub placed_at : has_place top (reported trees top (take place gs)) g.path ≡ true → Shows trees top gs first p (Some g)
    placed_at has =
        last_placed trees top gs first p (place + 1) g those (omega arith) short is_last over_it
        (subst (λ (k : ℕ). has_place top (reported trees top (take k gs)) g.path ≡ true) (sym one_back) has)

    pub unplaced_at : has_place top (reported trees top (take place gs)) g.path ≡ false → AreLater trees top gs first p place
    unplaced_at none =
        subst (λ (k : ℕ). AreLater trees top gs first p k) one_back
        (later_unplaced trees top gs first p (place + 1) g those (omega arith) short is_last
        (subst (λ (k : ℕ). has_place top (reported trees top (take k gs)) g.path ≡ false) (sym one_back) none))

-- ---- what a path stands for

origin_stays : (q : PathValue) (gs : List Graft) (from : PathValue)
    → ((i : ℕ) (g : Graft) → slice_get gs i ≡ Some g → is_at_or_under q g.path ≡ false) → fold (origin_after q) from gs ≡ from
origin_stays q [] from none = refl
origin_stays q (x ∷ gs) from none =
    ap (λ b. fold (origin_after q) (if b then x.from ++ drop (length x.path) q else from) gs) (none 0 x refl)
    ∙ origin_stays q gs from (λ i g at. none (suc i) g at)

origin_last : (q : PathValue) (gs : List Graft) (from : PathValue) (n : ℕ) (g : Graft) → slice_get gs n ≡ Some g
    → is_at_or_under q g.path ≡ true
    → ((i : ℕ) (x : Graft) → n < i → slice_get gs i ≡ Some x → is_at_or_under q x.path ≡ false)
    → fold (origin_after q) from gs ≡ g.from ++ drop (length g.path) q
origin_last q [] from n g at up none = absurd (cc at)
origin_last q (x ∷ gs) from zero g at up none =
    let same : x ≡ g = cc at in
    ap (λ (y : Graft). fold (origin_after q) (origin_after q from y) gs) same
    ∙ ap (λ b. fold (origin_after q) (if b then g.from ++ drop (length g.path) q else from) gs) up
    ∙ origin_stays q gs (g.from ++ drop (length g.path) q) (λ i y is. none (suc i) y (omega arith) is)
origin_last q (x ∷ gs) from (suc n) g at up none =
    origin_last q gs (origin_after q from x) n g at up (λ i y lt is. none (suc i) y (omega (lt, arith)) is)

pub origin_none : (anchor q : PathValue) (gs : List Graft) (n : ℕ) → n ≡ length gs
    → IsLastAbove q gs n None → origin anchor gs q ≡ anchor ++ q
origin_none anchor q gs n all none =
    origin_stays q gs (anchor ++ q) (λ i g at. none i g (let lt = slice_get_within gs i g at in omega (lt, all, arith)) at)

pub origin_some : (anchor q : PathValue) (gs : List Graft) (n place : ℕ) (g : Graft) → n ≡ length gs
    → IsLastAbove q gs n (Some place) → g ≡ get_or gs place g
    → origin anchor gs q ≡ g.from ++ drop (length g.path) q
origin_some anchor q gs n place g all last is =
    let at = at_place gs place g last.1 is in
    origin_last q gs (anchor ++ q) place g at (last.2 g at)
    (λ i x gt there. last.3 i x gt (let lt = slice_get_within gs i x there in omega (lt, all, arith)) there)

pub within_path : (q : PathValue) (gs : List Graft) (n place : ℕ) (g : Graft)
    → IsLastAbove q gs n (Some place) → g ≡ get_or gs place g → length g.path ≤ length q
within_path q gs n place g last is = under_length g.path q (last.2 g (at_place gs place g last.1 is))
