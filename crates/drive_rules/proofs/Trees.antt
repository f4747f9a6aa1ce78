-- Trees hold together.
use Rattle.std.proofs.Common.{◌≡◌, ℕ, zero, suc, Bool, true, false, cond, ◌&&◌, not, List, [], ◌∷◌, ◌++◌, length, drop, Option, Some, None, refl, sym, ap, ◌∙◌}
use Rattle.std.proofs.{Common.{subst, ◌⊎◌, inl, inr, ⊎_elim, option_map, if◌then◌else◌}, lemmas.Bool.false≢true, lemmas.List.append_assoc}
use Rattle.std.specs.Prelude.{IsTrue, IsSome, IsSomeAnd}
use Rattle.svnpath.specs.{PathLaws.{rest_append, same_path_refl, under_is}, Paths.{Component, is_at_or_under, PathValue, same_path}}
use Rattle.repo_api.specs.{Trees.{HasDirectory, is_directory, IsTree, Tree}, declared.entry.Entry.Entry}
use Rattle.drive_rules.specs.{declared.depth.Depth.Depth, Steps.{Step, node_of}, Drives.{Counts, IsRight, IsInBoth, HasReason, Differs}}
use Rattle.drive_rules.specs.Scopes.{under, HoldsTogether, DepthLimit, scope_of, within, stays_in_scope, includes, depth_said, own_or_inherited, top_limit}
use Rattle.drive_rules.proofs.{Joined.{and_front, and_both, none_some}, Entries.{below_under, below_apart}}

some_of : (t : Tree) (p : PathValue) → HasDirectory t p → IsSome (t p)
some_of t p h = by (t p) h
  where
    by : (o : Option Entry) → IsSomeAnd o (λ e. IsTrue (is_directory e)) → IsSome o
    by None k = absurd k
    by (Some x) k = refl

-- what stands below a path stands in a directory there
holds_at : (t : Tree) → IsTree t → (p : PathValue) (c : Component) (rest : List Component) → IsSome (t (p ++ c ∷ rest)) → HasDirectory t p
holds_at t tree p c [] some = tree.parents p c some
holds_at t tree p c (d ∷ rest) some =
    tree.parents p c (some_of t (p ++ c ∷ []) (holds_at t tree (p ++ c ∷ []) d rest (subst (λ q. IsSome (t q)) (sym (append_assoc p (c ∷ []) (d ∷ rest))) some)))

pub tree_holds : (t : Tree) → IsTree t → HoldsTogether [] t
tree_holds t tree p q at low some = by (drop (length p) q) (under_is q p (below_under p q low))
  where
    by : (rest : List Component) → q ≡ p ++ rest → HasDirectory t p
    by [] e = absurd (false≢true (sym (below_apart p q low) ∙ ap (same_path p) (e ∙ nil p) ∙ same_path_refl p))
      where
        nil : (xs : PathValue) → xs ++ [] ≡ xs
        nil [] = refl
        nil (x ∷ xs) = ap (λ ys. x ∷ ys) (nil xs)
    by (c ∷ rest) e = holds_at t tree p c rest (subst (λ x. IsSome (t x)) e some)

and_back : (a b : Bool) → (a && b) ≡ true → b ≡ true
and_back true b h = h
and_back false b h = absurd (false≢true h)

-- ---- scopes

-- a scope from the top on, which has what is above each of its paths
pub record IsScope (scope : PathValue → Bool) (top : PathValue) : Type 0 where
  pub beneath : (q : PathValue) → scope q ≡ true → is_at_or_under q top ≡ true
  pub above : (p q : PathValue) → is_at_or_under p top ≡ true → is_at_or_under q p ≡ true → scope q ≡ true → scope p ≡ true
  pub root : is_at_or_under [] top ≡ true → scope [] ≡ true

drop_nil : (n : ℕ) → ◌≡◌ {A = PathValue} (drop n []) []
drop_nil zero = refl
drop_nil (suc n) = refl

module _ (hides : PathValue → Bool) (inherited : Depth → Depth) (limit : DepthLimit) (r t : Tree) where
  abbrev reached : PathValue → Depth → List Component → Bool
  reached here depth names = stays_in_scope hides inherited limit r t here depth names

  -- what is reached is reached through what is in scope
  reached_front : (here : PathValue) (depth : Depth) (xs ys : List Component) → reached here depth (xs ++ ys) ≡ true → reached here depth xs ≡ true
  reached_front here depth [] ys h = refl
  reached_front here depth (c ∷ xs) ys h =
      let child : PathValue = here ++ c ∷ [] in
      let seen : (includes limit r t depth child && reached child (own_or_inherited inherited (depth_said limit child) depth) (xs ++ ys)) ≡ true = and_back (not (hides child)) _ h in
      and_both (not (hides child)) _ (and_front (not (hides child)) _ h)
      (and_both (includes limit r t depth child) _ (and_front (includes limit r t depth child) _ seen)
      (reached_front child (own_or_inherited inherited (depth_said limit child) depth) xs ys (and_back (includes limit r t depth child) _ seen)))

  pub is_scope : (top : PathValue) → IsScope (scope_of hides inherited limit r t top) top
  is_scope top = record {
    beneath = λ q h. and_front (is_at_or_under q top) _ h;
    above = λ p q at up h.
        and_both (is_at_or_under p top) _ at
        (reached_front top (top_limit limit top) (drop (length top) p) (drop (length p) q)
        (subst (λ cs. reached top (top_limit limit top) cs ≡ true) (rest_is p q at up) (and_back (is_at_or_under q top) _ h)));
    root = λ at. and_both (is_at_or_under [] top) _ at (ap (λ cs. reached top (top_limit limit top) cs) (drop_nil (length top)));
  }
    where
      rest_is : (p q : PathValue) → is_at_or_under p top ≡ true → is_at_or_under q p ≡ true → drop (length top) q ≡ drop (length top) p ++ drop (length p) q
      rest_is p q at up =
          ap (drop (length top)) (under_is q p up ∙ ap (λ y. y ++ drop (length p) q) (under_is p top at) ∙ append_assoc top (drop (length top) p) (drop (length p) q))
          ∙ rest_append top (drop (length top) p ++ drop (length p) q)

  pub scope_holds : (u : Tree) (top : PathValue) → HoldsTogether top u → HoldsTogether top (within (scope_of hides inherited limit r t top) u)
  scope_holds u top old p q at low some = by (scope_of hides inherited limit r t top q) refl some
    where
      by : (b : Bool) → scope_of hides inherited limit r t top q ≡ b → IsSome (if b then u q else None) → HasDirectory (within (scope_of hides inherited limit r t top) u) p
      by true h k =
          subst (λ b. IsSomeAnd (cond b (u p) None) (λ e. IsTrue (is_directory e))) (sym ((is_scope top).above p q at (below_under p q low) h)) (old p q at low k)
      by false h k = absurd (false≢true k)

-- a drive over what is in scope names nothing outside the scope
pub in_scope : (counts : Counts) (scope due apart : PathValue → Bool) (top : PathValue) (r t : Tree) (cs : List Step)
    → IsScope scope top → ((w : PathValue) → due w ≡ true → scope w ≡ true)
    → IsRight counts (under top) due apart (within scope r) (within scope t) cs
    → IsRight counts scope due apart (within scope r) (within scope t) cs
in_scope counts scope due apart top r t cs is known x = record {
  ends = λ q h. x.ends q (is.beneath q h);
  names = λ q h both old. x.names q (is.beneath q h) both old;
  texts = λ q h other. x.texts q (is.beneath q h) other;
  within = λ q named. reached q (x.within q named) (x.reasons q named);
  reasons = x.reasons;
  opens = x.opens;
  replaces = λ q h both a. x.replaces q (is.beneath q h) both a;
  meets = λ q h. x.meets q (is.beneath q h);
}
  where
    none : (u : Tree) (w : PathValue) → scope w ≡ false → within scope u w ≡ None
    none u w g = ap (λ s. cond s (u w) None) g

    in_it : (w : PathValue) (s : Bool) → scope w ≡ s → Differs counts.changes (within scope r) (within scope t) w ⊎ ((due w ≡ true) ⊎ (IsInBoth (within scope r) (within scope t) w × (apart w ≡ true))) → scope w ≡ true
    in_it w true h why = h
    in_it w false h why =
        ⊎_elim (λ d. absurd (d (ap (λ o. option_map node_of o) (none r w h ∙ sym (none t w h)), λ counted. ap (λ o. option_map (λ (e : Entry). e.last) o) (none r w h ∙ sym (none t w h)))))
        (λ more. ⊎_elim (λ s. known w s) (λ a. absurd (none_some (none r w h) a.0.0)) more) why

    reached : (q : PathValue) → is_at_or_under q top ≡ true → HasReason counts.changes due apart (within scope r) (within scope t) q → scope q ≡ true
    reached q at (inl e) = subst (λ y. scope y ≡ true) (sym e) (is.root (subst (λ y. is_at_or_under y top ≡ true) e at))
    reached q at (inr w) = is.above q w.0 at w.1 (in_it w.0 (scope w.0) refl w.2)
