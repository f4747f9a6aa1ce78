-- Whether something stands more than so many names beneath a path.
use Rattle.std.proofs.Common.{◌≡◌, ◌≤◌, ◌<◌, ◌+◌, ℕ, zero, suc, Bool, true, false, ◌&&◌, ◌||◌, List, [], ◌∷◌, ◌++◌, drop, length, Option, Some, None, is_some}
use Rattle.std.proofs.{Common.{refl, sym, ap, arith, ◌∙◌}, lemmas.Bool.{false≢true, ltb-true}, lemmas.Bool.Decides.nat_tests, lemmas.Cmp.tied_itself}
use Rattle.std.proofs.{lemmas.List.length-append, lemmas.List.Folds.list_any_at, Math.Logic.∥∥₁_elim}
use mathlib.Core.HLevel.{⊥_prop}
use Rattle.std.specs.{FinMap.{get, get-empty, keys, contains_key-keys}, List.list_any, Ordering.{is_eq, eq_by_cmp}, Prelude.{IsSome, nat_lt, slice_get}}
use Rattle.svnpath.specs.{Components.IsRightPath, PathLaws.{under_append, under_is}, Paths.{is_at_or_under, path_cmp, path_cmp_total, PathValue}}
use Rattle.svnpath.specs.declared.component.TheConstants.{DEPTH_LIMIT}
use Rattle.repo_api.specs.{Kinds.{has_deeper, has_deeper_at}, MergeLaws.key_there, Soundness.AreTrees, States.{Revision, tree_at, tree_in, tree_of, TreeMap}}
use Rattle.repo_api.specs.declared.entry.Entry.{Entry}
use Rattle.history_marks.specs.Sound.{IsSoundRepo}
use Rattle.noderevs.specs.{Beneath.IsShallow, Held.trees_of}
use Rattle.shared_revisions.specs.{Contents.held_state, declared.held.Held.Held}
use Rattle.shared_revisions.proofs.Seen.{held_seen}

-- ---- by the paths of a map

or_right : (b c : Bool) → c ≡ true → (b || c) ≡ true
or_right true c is = refl
or_right false c is = is

both_of : (b c : Bool) → (b && c) ≡ true → (b ≡ true) × (c ≡ true)
both_of true c is = (refl, is)
both_of false c is = absurd (false≢true is)

-- none is so where each that is among them is not
none_among : (f : PathValue → Bool) (ps : List PathValue)
    → ((p : PathValue) → list_any (eq_by_cmp path_cmp p) ps ≡ true → f p ≡ false)
    → list_any f ps ≡ false
none_among f [] none = refl
none_among f (p ∷ ps) none =
    ap (λ b. b || list_any f ps)
    (none p (ap (λ o. is_eq o || list_any (eq_by_cmp path_cmp p) ps)
    (tied_itself path_cmp_total p)))
    ∙ none_among f ps
    (λ q there. none q
    (or_right (eq_by_cmp path_cmp q p) (list_any (eq_by_cmp path_cmp q) ps) there))

module _ (m : TreeMap) (p : PathValue) (names : ℕ) where
  abbrev is_deeper : PathValue → Bool
  is_deeper q = is_at_or_under q p && nat_lt (length p + names) (length q)

  -- what stands there is at most so many names beneath
  out_of : IsShallow (tree_of m) p names → (q : PathValue) → IsSome (get m q) → is_deeper q ≡ true
      → ⊥
  out_of shallow q some deeper =
      let both = both_of (is_at_or_under q p) (nat_lt (length p + names) (length q)) deeper in
      let is : q ≡ p ++ drop (length p) q = under_is q p both.0 in
      let past : length p + names < length q = ltb-true (length p + names) (length q) both.1 in
      let parts : length q ≡ length p + length (drop (length p) q) =
      ap length is ∙ length-append p (drop (length p) q) in
      let none : get m q ≡ None =
      ap (get m) is ∙ shallow (drop (length p) q) (omega (arith, past, parts)) in
      false≢true (sym (ap is_some none) ∙ some)

  pub shallow_none : IsShallow (tree_of m) p names → has_deeper m p names ≡ false
  shallow_none shallow =
      none_among is_deeper (keys m)
      (λ q there. by q (is_deeper q) refl (contains_key-keys m q ∙ there))
    where
      by : (q : PathValue) (b : Bool) → is_deeper q ≡ b → IsSome (get m q) → b ≡ false
      by q true deeper some = absurd (out_of shallow q some deeper)
      by q false not some = refl

  past_is : (rest : PathValue) → names < length rest → is_deeper (p ++ rest) ≡ true
  past_is rest deep = by (is_deeper (p ++ rest)) refl
    where
      by : (b : Bool) → is_deeper (p ++ rest) ≡ b → b ≡ true
      by true e = refl
      by false e =
          let size = length-append p rest in
          let far : nat_lt (length p + names) (length (p ++ rest)) ≡ true =
          grind (arith, nat_tests, size, deep) in
          absurd (false≢true (sym e ∙ (λ i. under_append p rest i && far i)))

  pub none_shallow : has_deeper m p names ≡ false → IsShallow (tree_of m) p names
  none_shallow none rest deep = by (get m (p ++ rest)) refl
    where
      by : (o : Option Entry) → get m (p ++ rest) ≡ o → o ≡ None
      by None is = refl
      by (Some e) is =
          let there = key_there m (p ++ rest) (ap is_some is) in
          absurd (false≢true (sym none
          ∙ list_any_at is_deeper (keys m) there.0 (p ++ rest) there.1
          (ap is_deeper there.2 ∙ past_is rest deep)))

-- ---- in what is held

right_in : (rs : List Revision) → AreTrees rs → (n : ℕ) (q : PathValue)
    → IsSome (get (tree_in (slice_get rs n)) q) → IsRightPath q
right_in [] are n q some = absurd (false≢true (sym (ap is_some (get-empty path_cmp q)) ∙ some))
right_in (r ∷ rs) are zero q some = are.0.right q some
right_in (r ∷ rs) are (suc n) q some = right_in rs are.1 n q some

-- no path is deeper than the limit
pub none_past : (h : Held) (n : ℕ) (p : PathValue) (names : ℕ) → ∥ IsSoundRepo (held_state h) ∥₁
    → DEPTH_LIMIT ≤ names → has_deeper_at (held_state h) n p names ≡ false
none_past h n p names sound past = shallow_none (tree_at (held_state h) n) p names shallow
  where
    shallow : IsShallow (tree_of (tree_at (held_state h) n)) p names
    shallow rest deep = by (get (tree_at (held_state h) n) (p ++ rest)) refl
      where
        by : (o : Option Entry) → get (tree_at (held_state h) n) (p ++ rest) ≡ o → o ≡ None
        by None is = refl
        by (Some e) is = absurd (∥∥₁_elim sound ⊥_prop (λ s.
            let right =
            right_in (held_state h).revisions s.revisions.0 n (p ++ rest) (ap is_some is) in
            let within : length (p ++ rest) ≤ DEPTH_LIMIT = right.depth in
            let size : length (p ++ rest) ≡ length p + length rest = length-append p rest in
            omega (arith, within, size, deep, past)))

-- what nodes say of it
pub deeper_is : (h : Held) (n : ℕ) (p : PathValue) (names : ℕ) (answer : Bool)
    → (answer ≡ false → IsShallow (trees_of h.nodes n) p names)
    → (IsShallow (trees_of h.nodes n) p names → answer ≡ false)
    → answer ≡ has_deeper_at (held_state h) n p names
deeper_is h n p names answer none some = by answer refl (has_deeper_at (held_state h) n p names) refl
  where
    by : (a : Bool) → answer ≡ a → (b : Bool) → has_deeper_at (held_state h) n p names ≡ b → a ≡ b
    by true is true e = refl
    by false is false e = refl
    by false is true e =
        sym (shallow_none (tree_at (held_state h) n) p names
        (λ rest deep. held_seen h n (p ++ rest) ∙ none is rest deep)) ∙ e
    by true is false e =
        sym is ∙ some
        (λ rest deep. sym (held_seen h n (p ++ rest))
        ∙ none_shallow (tree_at (held_state h) n) p names e rest deep)
