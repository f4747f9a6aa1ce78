-- Walks that begin, and that go on.
use Rattle.std.proofs.Common.{◌≡◌, ◌<◌, ◌≤◌, ℕ, suc, Bool, true, false, List, [], ◌∷◌, ◌++◌, Option, Some, None, arith, refl, sym, ap, ◌∙◌, eq-eqb, map, length}
use Rattle.std.proofs.{Common.{take, get_or, ◌+◌, subst, Result, Ok, Err, IfOk}, lemmas.List.{take_more, map_more}, lemmas.List.Folds.list_any-append}
use Rattle.std.specs.Prelude.{◌==◌, ◌||◌, max}
use Rattle.repo_api.specs.Histories.{History}
use Rattle.traces.specs.{Traces.{trace, traced}, declared.place.Place.Place}
use Rattle.history.specs.{Logs.{place_at, listed, is_among, is_logged, found_from, IsNext}, Walks.{above_head, above_heads, is_coming, IsPast, AreFirst}}
use Rattle.history.specs.declared.listed.Listed.{Listed}
use Rattle.svnpath.specs.Paths.{PathValue}
use Rattle.history.proofs.{Steps.not_equal, Among.{none_from_below, none_above_place}}

-- one walk more
pub above_push : (heads : List (Option Listed)) (head : Option Listed) → above_heads (heads ++ head ∷ []) ≡ max (above_heads heads) (above_head head)
above_push [] head = omega arith
above_push (first ∷ heads) head =
    let rest : above_heads (heads ++ head ∷ []) ≡ max (above_heads heads) (above_head head) = above_push heads head in
    omega (arith, rest)

or_false : (b : Bool) → (b || false) ≡ b
or_false true = refl
or_false false = refl

pub coming_push : (h : History) (strict : Bool) (low m : ℕ) (heads : List (Option Listed)) (head : Option Listed)
    → is_coming h strict low (heads ++ head ∷ []) m ≡ (is_coming h strict low heads m || is_among m (found_from h strict low head))
coming_push h strict low m heads head =
    list_any-append (λ x. is_among m (found_from h strict low x)) heads (head ∷ [])
    ∙ ap (λ b. is_coming h strict low heads m || b) (or_false (is_among m (found_from h strict low head)))

-- what a walk finds below revision n is below n
found_below : (h : History) (strict : Bool) (low n : ℕ) (ns : List ℕ) (found : Option Listed) → ((m : ℕ) → n ≤ m → is_among m ns ≡ false)
    → ns ≡ found_from h strict low found → above_head found ≤ n
found_below h strict low n ns None past is = omega arith
found_below h strict low n ns (Some l) past is = by (above_head (Some l)) refl
  where
    here : is_among l.revision ns ≡ true
    here =
        ap (is_among l.revision) is
        ∙ ap (λ b. b || is_among l.revision (listed h low (traced h strict l.next))) (eq-eqb l.revision l.revision refl)

    by : (k : ℕ) → suc l.revision ≡ k → suc l.revision ≤ n
    by k is_k = let not_past : n ≤ l.revision → ⊥ = λ over. cc (sym (past l.revision over) ∙ here) in omega (arith, not_past)

-- a walk that had found revision n goes on
pub past_found : (h : History) (strict : Bool) (low n : ℕ) (l : Listed) (found : Option Listed) → l.revision ≡ n → IsNext h strict low l.next found
    → IsPast h strict low n (Some l) found
past_found h strict low n l found at is = record {
  below = found_below h strict low n (listed h low (traced h strict l.next)) found
      (λ m over. none_from_below h strict low m l.revision l.next l.below (omega (arith, at, over))) is;
  same = λ m under.
      let other : (l.revision == m) ≡ false = not_equal l.revision m (λ e. omega (arith, at, under, e)) in
      sym (ap (is_among m) is) ∙ sym (ap (λ b. b || is_among m (listed h low (traced h strict l.next))) other);
}

-- a walk that begins
pub first_push : (h : History) (strict : Bool) (low n : ℕ) (places : List Place) (heads : List (Option Listed)) (p : Place) (head : Option Listed)
    → AreFirst h strict low n places heads → p.revision ≡ n → IsNext h strict low (Some p) head
    → AreFirst h strict low n (places ++ p ∷ []) (heads ++ head ∷ [])
first_push h strict low n places heads p head are at is = record {
  below =
      let one : above_head head ≤ suc n =
      found_below h strict low (suc n) (listed h low (trace h strict p)) head (λ m over. none_above_place h strict low m p (omega (arith, at, over))) is in
      let whole = above_push heads head in
      omega (arith, one, whole, are.below);
  same = λ m.
      coming_push h strict low m heads head
      ∙ ap (λ b. b || is_among m (found_from h strict low head)) (are.same m)
      ∙ ap (λ ns. is_logged h strict low places m || is_among m ns) (sym is)
      ∙ sym (list_any-append (λ at. is_among m (listed h low (trace h strict at))) places (p ∷ [])
      ∙ ap (λ b. is_logged h strict low places m || b) (or_false (is_among m (listed h low (trace h strict p)))));
}

pub newest_more : (heads : List (Option Listed)) (i : ℕ) (head : Option Listed) → i < length heads → head ≡ get_or heads i head
    → above_heads (take (i + 1) heads) ≡ max (above_heads (take i heads)) (above_head head)
newest_more heads i head within is =
    ap above_heads (take_more heads i head within ∙ ap (λ x. take i heads ++ x ∷ []) (sym is)) ∙ above_push (take i heads) head

pub first_more : (h : History) (strict : Bool) (low n : ℕ) (paths : List PathValue) (i : ℕ) (path : PathValue) → i < length paths → path ≡ get_or paths i path
    → (heads new : List (Option Listed)) (head : Option Listed) → new ≡ heads ++ head ∷ []
    → AreFirst h strict low n (map (place_at n) (take i paths)) heads → IsNext h strict low (Some (place_at n path)) head
    → AreFirst h strict low n (map (place_at n) (take (i + 1) paths)) new
first_more h strict low n paths i path within is heads new head pushed are next =
    let places : map (place_at n) (take (i + 1) paths) ≡ map (place_at n) (take i paths) ++ place_at n path ∷ [] =
    map_more (place_at n) paths i path within ∙ ap (λ p. map (place_at n) (take i paths) ++ place_at n p ∷ []) (sym is) in
    let P : List Place → Type 0 = λ ps. AreFirst h strict low n ps new in
    let Q : List (Option Listed) → Type 0 = λ xs. AreFirst h strict low n (map (place_at n) (take i paths) ++ place_at n path ∷ []) xs in
    subst P (sym places) (subst Q (sym pushed) (first_push h strict low n (map (place_at n) (take i paths)) heads (place_at n path) head are refl next))

-- a walk past what it had found, where there is memory
pub past_on : {E : Type 0} (h : History) (strict : Bool) (low n : ℕ) (l : Listed) (head : Option Listed) (r : Result (Option Listed) E) → l.revision ≡ n → head ≡ Some l
    → IfOk r (λ found. IsNext h strict low l.next found) → IfOk r (λ next. IsPast h strict low n head next)
past_on h strict low n l head (Ok found) at was is =
    let P : Option Listed → Type 0 = λ o. IsPast h strict low n o found in
    subst P (sym was) (past_found h strict low n l found at is)
past_on h strict low n l head (Err e) at was is = is

-- some walks are left, and the others have gone on
pub record IsGoing (h : History) (strict : Bool) (low n : ℕ) (all left next : List (Option Listed)) : Type 0 where
  pub within : above_heads left ≤ suc n
  pub below : above_heads next ≤ n
  pub same : (m : ℕ) → m < n → (is_coming h strict low left m || is_coming h strict low next m) ≡ is_coming h strict low all m

pub going_within : (h : History) (strict : Bool) (low n : ℕ) (all whole left next : List (Option Listed)) (head : Option Listed) → whole ≡ left ++ head ∷ []
    → IsGoing h strict low n all whole next → above_head head ≤ suc n
going_within h strict low n all whole left next head is going =
    let parts = ap above_heads is ∙ above_push left head in
    omega (arith, parts, going.within)

pub going_on : (h : History) (strict : Bool) (low n : ℕ) (all whole left next new : List (Option Listed)) (head found : Option Listed) → whole ≡ left ++ head ∷ []
    → new ≡ next ++ found ∷ [] → IsGoing h strict low n all whole next → IsPast h strict low n head found → IsGoing h strict low n all left new
going_on h strict low n all whole left next new head found is pushed going past = record {
  within = let parts = ap above_heads is ∙ above_push left head in omega (arith, parts, going.within);
  below = let parts = ap above_heads pushed ∙ above_push next found in omega (arith, parts, going.below, past.below);
  same = λ m under.
      ap (λ xs. is_coming h strict low left m || is_coming h strict low xs m) pushed
      ∙ ap (λ b. is_coming h strict low left m || b) (coming_push h strict low m next found)
      ∙ ap (λ b. is_coming h strict low left m || (is_coming h strict low next m || b)) (past.same m under)
      ∙ turned (is_coming h strict low left m) (is_coming h strict low next m) (is_among m (found_from h strict low head))
      ∙ ap (λ b. b || is_coming h strict low next m) (sym (ap (λ xs. is_coming h strict low xs m) is ∙ coming_push h strict low m left head))
      ∙ going.same m under;
}
  where
    turned : (a b c : Bool) → (a || (b || c)) ≡ ((a || c) || b)
    turned true b c = refl
    turned false true true = refl
    turned false true false = refl
    turned false false true = refl
    turned false false false = refl
