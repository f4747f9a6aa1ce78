-- What a list of changes has at a path and beneath it.
use Rattle.std.proofs.Common.{◌≡◌, ◌<◌, arith, ℕ, zero, suc, Bool, true, false, cond, List, [], ◌∷◌, ◌++◌, find, length, drop, Option, Some, None, option_map}
use Rattle.std.proofs.{Common.{slice_index_or, refl, sym, ap, ◌∙◌, subst}, lemmas.Bool.{false≢true, or_from, or_parts}, lemmas.List.append_assoc}
use Rattle.std.specs.{List.list_any, Prelude.slice_get}
use Rattle.svnpath.specs.PathLaws.{rest_append, same_component_refl, same_path_is, under_append, under_is, under_itself}
use Rattle.svnpath.specs.Paths.{Component, is_at_or_under, PathValue, same_component, same_path}
use Rattle.repo_api.specs.{Histories.Changed, Readings.rest_beneath}
use Rattle.replays.specs.{Places.{change_in, run_at}, Visiting.HasNothingAt}

-- a list has something at a path or beneath it
abbrev pub has_at : List Changed → PathValue → Bool
has_at run q = list_any (λ (e : Changed). is_at_or_under e.0 q) run

at_index : (run : List Changed) (q : PathValue) → has_at run q ≡ false → (k : ℕ) (e : Changed) → k < length run → slice_index_or run k e ≡ e → is_at_or_under e.0 q ≡ false
at_index [] q none k e lt is = absurd (omega (lt, arith))
at_index (x ∷ run) q none zero e lt is = ap (λ (y : Changed). is_at_or_under y.0 q) (sym is) ∙ (or_parts (is_at_or_under x.0 q) (has_at run q) none).0
at_index (x ∷ run) q none (suc k) e lt is = at_index run q (or_parts (is_at_or_under x.0 q) (has_at run q) none).1 k e (omega (lt, arith)) is

pub nothing_from : (run : List Changed) (q : PathValue) → has_at run q ≡ false → HasNothingAt run q
nothing_from run q none e has = at_index run q none has.0 e has.1 has.2

pub none_from : (run : List Changed) (q : PathValue) → HasNothingAt run q → has_at run q ≡ false
none_from [] q nothing = refl
none_from (x ∷ run) q nothing =
    or_from (is_at_or_under x.0 q) (has_at run q) (nothing x (0, omega arith, refl)) (none_from run q (λ e has. nothing e (suc has.0, omega (has.1, arith), has.2)))

under_more : (x q p : PathValue) → is_at_or_under x q ≡ true → is_at_or_under q p ≡ true → is_at_or_under x p ≡ true
under_more x q p xq qp = subst (λ y. is_at_or_under y p ≡ true) (sym (under_is x q xq ∙ ap (λ y. y ++ drop (length q) x) (under_is q p qp) ∙ append_assoc p (drop (length p) q) (drop (length q) x))) (under_append p (drop (length p) q ++ drop (length q) x))

-- what has nothing at a path has nothing beneath it
pub none_beneath : (run : List Changed) (q p : PathValue) → is_at_or_under q p ≡ true → has_at run p ≡ false → has_at run q ≡ false
none_beneath [] q p up none = refl
none_beneath (x ∷ run) q p up none =
    let parts = or_parts (is_at_or_under x.0 p) (has_at run p) none in
    or_from (is_at_or_under x.0 q) (has_at run q) (by (is_at_or_under x.0 q) refl parts.0) (none_beneath run q p up parts.1)
  where
    by : (b : Bool) → is_at_or_under x.0 q ≡ b → is_at_or_under x.0 p ≡ false → b ≡ false
    by true below out = absurd (false≢true (sym out ∙ under_more x.0 q p below up))
    by false below out = refl

-- what a list has at a path beneath another it has among what it has there
pub none_in_run : (changes : List Changed) (q p : PathValue) → is_at_or_under q p ≡ true → has_at (run_at changes p) q ≡ false → has_at changes q ≡ false
none_in_run [] q p up none = refl
none_in_run (x ∷ changes) q p up none = by (is_at_or_under x.0 p) refl none (λ h. none_in_run changes q p up h)
  where
    out : is_at_or_under x.0 p ≡ false → (b : Bool) → is_at_or_under x.0 q ≡ b → b ≡ false
    out apart true below = absurd (false≢true (sym apart ∙ under_more x.0 q p below up))
    out apart false below = refl

    by : (b : Bool) → is_at_or_under x.0 p ≡ b → has_at (cond b (x ∷ run_at changes p) (run_at changes p)) q ≡ false
        → (has_at (run_at changes p) q ≡ false → has_at changes q ≡ false) → has_at (x ∷ changes) q ≡ false
    by true is h rest =
        let parts = or_parts (is_at_or_under x.0 q) (has_at (run_at changes p) q) h in
        or_from (is_at_or_under x.0 q) (has_at changes q) parts.0 (rest parts.1)
    by false is h rest = or_from (is_at_or_under x.0 q) (has_at changes q) (out is (is_at_or_under x.0 q) refl) (rest h)

-- there is no change at a path at which a list has nothing
pub no_change : (changes : List Changed) (q : PathValue) → has_at changes q ≡ false → change_in changes q ≡ None
no_change changes q none = ap (option_map (λ (e : Changed). e.1)) (lost changes none)
  where
    lost : (es : List Changed) → has_at es q ≡ false → find (λ (e : Changed). same_path e.0 q) es ≡ None
    lost [] h = refl
    lost (x ∷ es) h =
        let parts = or_parts (is_at_or_under x.0 q) (has_at es q) h in by (same_path x.0 q) refl parts.0 (lost es parts.1)
      where
        by : (b : Bool) → same_path x.0 q ≡ b → is_at_or_under x.0 q ≡ false → find (λ (e : Changed). same_path e.0 q) es ≡ None → cond b (Some x) (find (λ (e : Changed). same_path e.0 q) es) ≡ None
        by true same out rest = absurd (false≢true (sym out ∙ ap (λ y. is_at_or_under y q) (same_path_is x.0 q same) ∙ under_itself q))
        by false same out rest = rest

-- all is at the root or beneath it
run_at_root : (changes : List Changed) → run_at changes [] ≡ changes
run_at_root [] = refl
run_at_root (x ∷ changes) = ap (λ (xs : List Changed). x ∷ xs) (run_at_root changes)

pub root_run : (run changes : List Changed) (p : PathValue) → run ≡ changes → p ≡ [] → run ≡ run_at changes p
root_run run changes p is at_root = is ∙ sym (run_at_root changes) ∙ ap (run_at changes) (sym at_root)

-- ---- names by which paths are beneath another

abbrev pub is_named : Component → Option Component → Bool
is_named c None = false
is_named c (Some d) = same_component c d

first_beneath : (p : PathValue) (x : Component) (k : PathValue) → is_at_or_under k (p ++ x ∷ []) ≡ true → slice_get (rest_beneath p k) 0 ≡ Some x
first_beneath p x k up =
    ap (λ y. slice_get (rest_beneath p y) 0) there
    ∙ ap (λ b. slice_get (cond b (drop (length p) (p ++ x ∷ rest)) []) 0) (under_append p (x ∷ rest))
    ∙ ap (λ r. slice_get r 0) (rest_append p (x ∷ rest))
  where
    rest : PathValue
    rest = drop (length (p ++ x ∷ [])) k

    there : k ≡ p ++ x ∷ rest
    there = under_is k (p ++ x ∷ []) up ∙ append_assoc p (x ∷ []) rest

-- a path that is beneath by another name is not at or under the entry
pub not_by : (p : PathValue) (x : Component) (k : PathValue) (o : Option Component) → o ≡ slice_get (rest_beneath p k) 0 → is_named x o ≡ false → is_at_or_under k (p ++ x ∷ []) ≡ false
not_by p x k o is other = by (is_at_or_under k (p ++ x ∷ [])) refl
  where
    by : (b : Bool) → is_at_or_under k (p ++ x ∷ []) ≡ b → b ≡ false
    by true up = absurd (false≢true (sym other ∙ ap (is_named x) (is ∙ first_beneath p x k up) ∙ same_component_refl x))
    by false up = refl
