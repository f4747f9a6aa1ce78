-- What a list of changes has at a path and beneath it is one run of it.
use Rattle.std.proofs.Common.{arith, ◌≡◌, ◌<◌, ◌≤◌, inl, inr, ℕ, zero, suc, Bool, true, false, cond, not, ◌&&◌, List, [], ◌∷◌, ◌++◌, length, take, drop, get_or}
use Rattle.std.proofs.{Common.{Option, Some, None, option_map, refl, sym, ap, subst, ◌∙◌, append_assoc}, lemmas.Bool.false≢true}
use Rattle.std.proofs.{lemmas.List.{get_or-map, length-map}, lemmas.List.Elements.{All-get_or, All-head, filter_passes}}
use Rattle.std.proofs.{lemmas.List.Kept.IsStrictlySortedBy-filter, lemmas.Map.Keys.{Less-from_sorted, sorted_head}}
use Rattle.std.specs.{FinMap.{FinMap, entries, entries_sorted}, FinMap.Entries.{is_sorted, below_all}, List.{All, AllByRecursion, filter, find}}
use Rattle.std.specs.{List.Sorted.{IsPartitionedBy, IsPartitionPoint, IsStrictlySortedBy}, Map.keys_of, Option.unwrap_or}
use Rattle.std.specs.{Ordering.{is_le, is_lt, ordering_reverse}, Prelude.{◌⊎◌, T, if◌then◌else◌, is_some, slice_get}, declared.cmp.Ordering.Ordering}
use Rattle.std.specs.declared.cmp.Ordering.TheVariants.{Less, Equal, Greater}
use Rattle.svnpath.specs.PathLaws.{between_under, from_under, same_path_is, under_append, under_is, under_itself}
use Rattle.svnpath.specs.Paths.{is_at_or_under, path_cmp, path_cmp_total, PathValue, same_path}
use Rattle.repo_api.specs.{Histories.{Changed, changes_in, history_of}, States.{RepoState, Revision}}
use Rattle.replays.specs.Places.{change_in, run_at}

-- ---- filters

pub filter_within : {X : Type 0} (p q : X → Bool) → ((x : X) → p x ≡ true → q x ≡ true) → (xs : List X) → filter p (filter q xs) ≡ filter p xs
filter_within p q h [] = refl
filter_within {X} p q h (x ∷ xs) = by (q x) refl (p x) refl (filter_within p q h xs)
  where
    by : (b : Bool) → q x ≡ b → (a : Bool) → p x ≡ a → filter p (filter q xs) ≡ filter p xs → filter p (cond b (x ∷ filter q xs) (filter q xs)) ≡ cond (p x) (x ∷ filter p xs) (filter p xs)
    by true is a at rest = ap (λ ys. cond (p x) (x ∷ ys) ys) rest
    by false is true at rest = absurd (false≢true (sym is ∙ h x at))
    by false is false at rest = rest ∙ ap (λ b. cond b (x ∷ filter p xs) (filter p xs)) (sym at)

pub find_within : {X : Type 0} (p q : X → Bool) → ((x : X) → p x ≡ true → q x ≡ true) → (xs : List X) → find p (filter q xs) ≡ find p xs
find_within p q h [] = refl
find_within {X} p q h (x ∷ xs) = by (q x) refl (p x) refl (find_within p q h xs)
  where
    by : (b : Bool) → q x ≡ b → (a : Bool) → p x ≡ a → find p (filter q xs) ≡ find p xs → find p (cond b (x ∷ filter q xs) (filter q xs)) ≡ cond (p x) (Some x) (find p xs)
    by true is a at rest = ap (λ o. cond (p x) (Some x) o) rest
    by false is true at rest = absurd (false≢true (sym is ∙ h x at))
    by false is false at rest = rest ∙ ap (λ b. cond b (Some x) (find p xs)) (sym at)

none_left : {X : Type 0} (p : X → Bool) (xs : List X) → ((k : ℕ) (d : X) → k < length xs → p (get_or xs k d) ≡ false) → (filter p xs ≡ []) × (xs ≡ filter (λ y. not (p y)) xs)
none_left p [] h = (refl, refl)
none_left p (x ∷ xs) h =
    let rest = none_left p xs (λ k d less. h (suc k) d (omega (arith, less))) in
    let out = h 0 x (omega arith) in (
      ap (λ b. cond b (x ∷ filter p xs) (filter p xs)) out ∙ rest.0,
      ap (λ ys. x ∷ ys) rest.1 ∙ sym (ap (λ b. cond (not b) (x ∷ filter (λ y. not (p y)) xs) (filter (λ y. not (p y)) xs)) out),
    )

-- a list that is parted at a point is so by a filter
pub parted : {X : Type 0} (p : X → Bool) (xs : List X) (i : ℕ) → i ≤ length xs → IsPartitionPoint (λ y. p y ≡ true) (λ y. p y ≡ false) xs i
    → (take i xs ≡ filter p xs) × (drop i xs ≡ filter (λ y. not (p y)) xs)
parted p [] zero within point = (refl, refl)
parted p [] (suc i) within point = absurd (omega (arith, within))
parted p (x ∷ xs) zero within point =
    let none = none_left p (x ∷ xs) (λ k d less. point.1 k d (omega arith) less) in
    (sym none.0, none.1)
parted p (x ∷ xs) (suc i) within point =
    let rest = parted p xs i (omega (arith, within)) (λ k d from less. point.0 (suc k) d (omega arith) (omega (arith, less)), λ k d from less. point.1 (suc k) d (omega (arith, from)) (omega (arith, less))) in
    let is : p x ≡ true = point.0 0 x (omega arith) (omega arith) in (
      ap (λ ys. x ∷ ys) rest.0 ∙ sym (ap (λ b. cond b (x ∷ filter p xs) (filter p xs)) is),
      rest.1 ∙ sym (ap (λ b. cond (not b) (x ∷ filter (λ y. not (p y)) xs) (filter (λ y. not (p y)) xs)) is),
    )

-- ---- lists in the order of their paths

abbrev pub IsInOrder : {X : Type 0} → List (PathValue × X) → Type 0
IsInOrder es = IsStrictlySortedBy path_cmp (keys_of es)

is_true : (b : Bool) → T b → b ≡ true
is_true true h = refl
is_true false h = absurd h

both_true : (a b : Bool) → (a && b) ≡ true → (a ≡ true) × (b ≡ true)
both_true true b h = (refl, h)
both_true false b h = absurd (false≢true h)

is_less : (o : Ordering) → is_lt o ≡ true → o ≡ Less
is_less Less h = refl
is_less Equal h = absurd (false≢true h)
is_less Greater h = absurd (false≢true h)

below_keys : {X : Type 0} (p : PathValue) (es : List (PathValue × X)) → below_all path_cmp p es ≡ true → AllByRecursion (λ k. path_cmp p k ≡ Less) (keys_of es)
below_keys p [] h = tt
below_keys p (e ∷ es) h =
    let both = both_true (is_lt (path_cmp p e.0)) (below_all path_cmp p es) h in
    (is_less (path_cmp p e.0) both.0, below_keys p es both.1)

sorted_keys : {X : Type 0} (es : List (PathValue × X)) → is_sorted path_cmp es ≡ true → IsInOrder es
unfolding IsStrictlySortedBy
sorted_keys [] h = tt
sorted_keys (e ∷ es) h =
    let both = both_true (below_all path_cmp e.0 es) (is_sorted path_cmp es) h in
    (below_keys e.0 es both.0, sorted_keys es both.1)

pub in_order : {X : Type 0} (m : FinMap path_cmp X) → IsInOrder (entries m)
in_order m = sorted_keys (entries m) (is_true (is_sorted path_cmp (entries m)) (entries_sorted m))

keys_left : {X : Type 0} (f : PathValue → Bool) (es : List (PathValue × X)) → keys_of (filter (λ e. f e.0) es) ≡ filter f (keys_of es)
keys_left f [] = refl
keys_left {X} f (e ∷ es) = by (f e.0) (keys_left f es)
  where
    by : (b : Bool) → keys_of (filter (λ x. f x.0) es) ≡ filter f (keys_of es) → keys_of (cond b (e ∷ filter (λ x. f x.0) es) (filter (λ x. f x.0) es)) ≡ cond b (e.0 ∷ filter f (keys_of es)) (filter f (keys_of es))
    by true rest = ap (λ ks. e.0 ∷ ks) rest
    by false rest = rest

pub order_left : {X : Type 0} (f : PathValue → Bool) (es : List (PathValue × X)) → IsInOrder es → IsInOrder (filter (λ e. f e.0) es)
order_left f es s = subst (IsStrictlySortedBy path_cmp) (sym (keys_left f es)) (IsStrictlySortedBy-filter path_cmp f (keys_of es) s)

changes_in_order : (r : Option Revision) → IsInOrder (changes_in r)
unfolding IsStrictlySortedBy
changes_in_order None = tt
changes_in_order (Some r) = in_order r.changes

pub history_in_order : (c : RepoState) (n : ℕ) → IsInOrder (history_of c n)
history_in_order c n = changes_in_order (slice_get c.revisions n)

pub run_in_order : (c : RepoState) (n : ℕ) (p : PathValue) → IsInOrder (run_at (history_of c n) p)
run_in_order c n p = order_left (λ k. is_at_or_under k p) (history_of c n) (history_in_order c n)

le_cases : (a b : ℕ) → a ≤ b → (a ≡ b) ⊎ (a < b)
le_cases zero zero l = inl refl
le_cases zero (suc b) l = inr (omega arith)
le_cases (suc a) zero l = absurd (omega (arith, l))
le_cases (suc a) (suc b) l = up (le_cases a b (omega (arith, l)))
  where
    up : (a ≡ b) ⊎ (a < b) → (suc a ≡ suc b) ⊎ (suc a < suc b)
    up (inl e) = inl (ap suc e)
    up (inr h) = inr (omega (arith, h))

-- one stands before another
rises : {X : Type 0} (es : List (PathValue × X)) (i j : ℕ) (d : PathValue × X) → IsInOrder es → i < j → j < length es → path_cmp (get_or es i d).0 (get_or es j d).0 ≡ Less
rises es i j d s less within =
    let near : i < length es = omega (arith, less, within) in
    (λ k. path_cmp (sym (get_or-map (λ e. e.0) es i d d.0 near) k) (sym (get_or-map (λ e. e.0) es j d d.0 within) k))
    ∙ Less-from_sorted path_cmp (keys_of es) i j d.0 s less (subst (λ n. j < n) (sym (length-map es (λ e. e.0))) within)

-- ---- from a path on

after_is : (p k : PathValue) → is_lt (path_cmp k p) ≡ false → is_le (path_cmp p k) ≡ true
after_is p k h = ap is_le (path_cmp_total.antisymm p k) ∙ by (path_cmp k p) h
  where
    by : (o : Ordering) → is_lt o ≡ false → is_le (ordering_reverse o) ≡ true
    by Less h = absurd (false≢true (sym h))
    by Equal h = refl
    by Greater h = refl

not_before : (p k : PathValue) → is_at_or_under k p ≡ true → not (is_lt (path_cmp k p)) ≡ true
not_before p k under = by (path_cmp k p) (ap is_le (sym (path_cmp_total.antisymm p k)) ∙ from_under p k under)
  where
    by : (o : Ordering) → is_le (ordering_reverse o) ≡ true → not (is_lt o) ≡ true
    by Less h = absurd (false≢true h)
    by Equal h = refl
    by Greater h = refl

pub parted_before : {X : Type 0} (p : PathValue) (es : List (PathValue × X)) → IsInOrder es → IsPartitionedBy (λ e. is_lt (path_cmp e.0 p)) es
parted_before p es s i j d le within h = by (le_cases i j le)
  where
    by : (i ≡ j) ⊎ (i < j) → is_lt (path_cmp (get_or es i d).0 p) ≡ true
    by (inl same) = subst (λ k. is_lt (path_cmp (get_or es k d).0 p) ≡ true) (sym same) h
    by (inr less) =
        ap is_lt (path_cmp_total.trans (get_or es i d).0 (get_or es j d).0 p (rises es i j d s less within) (is_less (path_cmp (get_or es j d).0 p) h))

pub parted_under : {X : Type 0} (p : PathValue) (es : List (PathValue × X)) → IsInOrder es
    → IsPartitionedBy (λ e. is_at_or_under e.0 p) (filter (λ e. not (is_lt (path_cmp e.0 p))) es)
parted_under {X} p es s i j d le within h = by (le_cases i j le)
  where
    rest : List (PathValue × X)
    rest = filter (λ e. not (is_lt (path_cmp e.0 p))) es

    is_false : (b : Bool) → not b ≡ true → b ≡ false
    is_false true n = absurd (false≢true n)
    is_false false n = refl

    by : (i ≡ j) ⊎ (i < j) → is_at_or_under (get_or rest i d).0 p ≡ true
    by (inl same) = subst (λ k. is_at_or_under (get_or rest k d).0 p ≡ true) (sym same) h
    by (inr less) =
        between_under p (get_or rest i d).0 (get_or rest j d).0
        (after_is p (get_or rest i d).0
        (is_false (is_lt (path_cmp (get_or rest i d).0 p)) (All-get_or (λ e. not (is_lt (path_cmp e.0 p)) ≡ true) rest i d (omega (arith, less, within)) (filter_passes (λ e. not (is_lt (path_cmp e.0 p))) es))))
        (ap is_le (rises rest i j d (order_left (λ k. not (is_lt (path_cmp k p))) es s) less within)) h

-- ---- the run

pub under_trans : (q p above : PathValue) → is_at_or_under q p ≡ true → is_at_or_under p above ≡ true → is_at_or_under q above ≡ true
under_trans q p above under over =
    subst (λ x. is_at_or_under x above ≡ true)
    (sym (under_is q p under ∙ ap (λ x. x ++ drop (length p) q) (under_is p above over) ∙ append_assoc above (drop (length above) p) (drop (length p) q)))
    (under_append above (drop (length above) p ++ drop (length p) q))

-- where the parts are as they are, the run is what is at the path and beneath it
pub run_is : {X : Type 0} (p : PathValue) (es rest : List (PathValue × X)) (i j : ℕ) → i ≤ length es
    → IsPartitionPoint (λ e. is_lt (path_cmp e.0 p) ≡ true) (λ e. is_lt (path_cmp e.0 p) ≡ false) es i → rest ≡ drop i es
    → j ≤ length rest → IsPartitionPoint (λ e. is_at_or_under e.0 p ≡ true) (λ e. is_at_or_under e.0 p ≡ false) rest j
    → take j rest ≡ filter (λ e. is_at_or_under e.0 p) es
run_is p es rest i j within point is close end =
    (parted (λ e. is_at_or_under e.0 p) rest j close end).0
    ∙ ap (filter (λ e. is_at_or_under e.0 p)) (is ∙ (parted (λ e. is_lt (path_cmp e.0 p)) es i within point).1)
    ∙ filter_within (λ e. is_at_or_under e.0 p) (λ e. not (is_lt (path_cmp e.0 p))) (λ e. not_before p e.0) es

pub rest_is : {X : Type 0} (p : PathValue) (es : List (PathValue × X)) (i : ℕ) → i ≤ length es
    → IsPartitionPoint (λ e. is_lt (path_cmp e.0 p) ≡ true) (λ e. is_lt (path_cmp e.0 p) ≡ false) es i → drop i es ≡ filter (λ e. not (is_lt (path_cmp e.0 p))) es
rest_is p es i within point = (parted (λ e. is_lt (path_cmp e.0 p)) es i within point).1

-- what is at a path and beneath it, of what is so of a path above
pub run_of_run : (changes : List Changed) (p above : PathValue) → is_at_or_under p above ≡ true → filter (λ e. is_at_or_under e.0 p) (run_at changes above) ≡ run_at changes p
run_of_run changes p above under =
    filter_within (λ e. is_at_or_under e.0 p) (λ e. is_at_or_under e.0 above) (λ e at. under_trans e.0 p above at under) changes

-- ---- the change at a path

-- the first of a run, if it is at the path
abbrev pub first_at : PathValue → List Changed → Option Changed
first_at p [] = None
first_at p (e ∷ es) = if same_path e.0 p then Some e else None

none_same : (p k y : PathValue) → is_at_or_under k p ≡ true → path_cmp k y ≡ Less → same_path y p ≡ false
none_same p k y under less = by (same_path y p) refl
  where
    by : (b : Bool) → same_path y p ≡ b → b ≡ false
    by false is = refl
    by true is =
        absurd (false≢true
        (sym (ap is_le (path_cmp_total.antisymm p k) ∙ ap (λ o. is_le (ordering_reverse o)) (ap (path_cmp k) (sym (same_path_is y p is)) ∙ less))
        ∙ from_under p k under))

none_found : (p k : PathValue) (es : List Changed) → is_at_or_under k p ≡ true → AllByRecursion (λ y. path_cmp k y ≡ Less) (keys_of es) → find (λ e. same_path e.0 p) es ≡ None
none_found p k [] under h = refl
none_found p k (e ∷ es) under h =
    ap (λ b. cond b (Some e) (find (λ x. same_path x.0 p) es)) (none_same p k e.0 under h.0) ∙ none_found p k es under h.1

first_found : (p : PathValue) (es : List Changed) → IsInOrder es → All (λ e. is_at_or_under e.0 p ≡ true) es → find (λ e. same_path e.0 p) es ≡ first_at p es
first_found p [] s all = refl
first_found p (e ∷ es) s all =
    ap (λ o. cond (same_path e.0 p) (Some e) o)
    (none_found p e.0 es (All-head (λ x. is_at_or_under x.0 p ≡ true) e es all) (sorted_head path_cmp e.0 (keys_of es) s))

at_under : (q p : PathValue) → same_path q p ≡ true → is_at_or_under q p ≡ true
at_under q p same = subst (λ x. is_at_or_under x p ≡ true) (sym (same_path_is q p same)) (under_itself p)

-- the change at a path stands first in its run
pub found_first : (c : RepoState) (n : ℕ) (p : PathValue) (run : List Changed) → run ≡ run_at (history_of c n) p → find (λ e. same_path e.0 p) (history_of c n) ≡ first_at p run
found_first c n p run is =
    sym (find_within (λ e. same_path e.0 p) (λ e. is_at_or_under e.0 p) (λ e. at_under e.0 p) (history_of c n))
    ∙ first_found p (run_at (history_of c n) p) (run_in_order c n p) (filter_passes (λ e. is_at_or_under e.0 p) (history_of c n))
    ∙ ap (first_at p) (sym is)

-- so it is known by the first of the run
pub change_first : (c : RepoState) (n : ℕ) (p : PathValue) (run : List Changed) → run ≡ run_at (history_of c n) p
    → change_in (history_of c n) p ≡ option_map (λ e. e.1) (first_at p run)
change_first c n p run is = ap (option_map (λ e. e.1)) (found_first c n p run is)

of_none : (p : PathValue) (run : List Changed) → slice_get run 0 ≡ None → first_at p run ≡ None
of_none p [] h = refl
of_none p (e ∷ es) h = absurd (false≢true (sym (ap is_some h)))

of_some : (p : PathValue) (run : List Changed) (e : Changed) → slice_get run 0 ≡ Some e → first_at p run ≡ (if same_path e.0 p then Some e else None)
of_some p [] e h = absurd (false≢true (ap is_some h))
of_some p (x ∷ es) e h = ap (λ o. first_of p (unwrap_or o x)) h
  where
    first_of : PathValue → Changed → Option Changed
    first_of q y = if same_path y.0 q then Some y else None

pub change_none : (c : RepoState) (n : ℕ) (p : PathValue) (run : List Changed) → run ≡ run_at (history_of c n) p → slice_get run 0 ≡ None → change_in (history_of c n) p ≡ None
change_none c n p run is none = change_first c n p run is ∙ ap (option_map (λ e. e.1)) (of_none p run none)

pub change_same : (c : RepoState) (n : ℕ) (p : PathValue) (run : List Changed) (e : Changed) → run ≡ run_at (history_of c n) p → slice_get run 0 ≡ Some e → same_path e.0 p ≡ true
    → change_in (history_of c n) p ≡ Some e.1
change_same c n p run e is some same =
    change_first c n p run is ∙ ap (option_map (λ x. x.1)) (of_some p run e some ∙ ap (λ b. if b then Some e else None) same)

pub change_other : (c : RepoState) (n : ℕ) (p : PathValue) (run : List Changed) (e : Changed) → run ≡ run_at (history_of c n) p → slice_get run 0 ≡ Some e → same_path e.0 p ≡ false
    → change_in (history_of c n) p ≡ None
change_other c n p run e is some other =
    change_first c n p run is ∙ ap (option_map (λ x. x.1)) (of_some p run e some ∙ ap (λ b. if b then Some e else None) other)
