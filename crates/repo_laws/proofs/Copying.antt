-- A copy makes a tree.
use Rattle.std.proofs.Common.{◌≡◌, ◌<◌, ◌≤◌, ◌⊎◌, inl, inr, ℕ, Bool, true, false, List, [], ◌∷◌, ◌++◌, length, drop, map, None, refl, sym, ap, subst}
use Rattle.std.proofs.{Common.{append_assoc, append-nil, ◌∙◌}, lemmas.Bool.false≢true, lemmas.List.{length-map, get_or-map}}
use Rattle.std.proofs.lemmas.List.Elements.{Contains-append_left, Contains-append_right, All-append, All-drop}
use Rattle.std.specs.Prelude.{if◌then◌else◌, IsSome, Contains, All}
use Rattle.svnpath.specs.{Components.{IsComponent, IsRightPath}, PathLaws.{rest_append, under_append, under_is}, Paths.{Component, is_at_or_under, PathValue}}
use Rattle.svnpath.specs.declared.component.TheConstants.{DEPTH_LIMIT}
use Rattle.repo_api.specs.{Edits.{copied, copy_of, deleted, grafted, touched_above, with_open_mark}, Trees.{HasDirectory, IsTree, text_of, Tree}}
use Rattle.repo_laws.proofs.Keeping.{IsDirectoryAt, renewed_directory, some_renewed, touched_directory, some_touched, text_touched, text_renewed, IsShort}
use Rattle.repo_laws.proofs.{Keeping.{no_text, root_outside, parent_outside, same_parent, deleted_tree}, Under.{not_true, under_by, head_or, tail_of}}

-- what begins the path of an entry begins its directory's path, or is the entry's path
beneath_or_at : (p q rest : PathValue) (c : Component) → q ++ c ∷ [] ≡ p ++ rest → (is_at_or_under q p ≡ true) ⊎ (q ++ c ∷ [] ≡ p)
beneath_or_at [] q rest c is = inl (under_append [] q)
beneath_or_at (d ∷ []) [] rest c is = inr (λ i. head_or d (is i) ∷ [])
beneath_or_at (d ∷ e ∷ p) [] rest c is = absurd (false≢true (ap is_cons (ap tail_of is)))
  where
    is_cons : PathValue → Bool
    is_cons [] = false
    is_cons (x ∷ xs) = true
beneath_or_at (d ∷ p) (e ∷ q) rest c is = by (beneath_or_at p q rest c (ap tail_of is))
  where
    heads : e ≡ d
    heads = ap (head_or d) is

    by : (is_at_or_under q p ≡ true) ⊎ (q ++ c ∷ [] ≡ p) → (is_at_or_under (e ∷ q) (d ∷ p) ≡ true) ⊎ (e ∷ (q ++ c ∷ []) ≡ d ∷ p)
    by (inl u) = inl (under_by (e ∷ q) (d ∷ p) (drop (length p) q) (λ i. heads i ∷ under_is q p u i))
    by (inr same) = inr (λ i. heads i ∷ same i)

-- a tree with a part at a path in a directory: the part's entries stand in directories, and are finitely many
module _ (t : Tree) (p : PathValue) (c : Component) (part : Tree) (is : IsTree t) (has : HasDirectory t p)
    (part_parents : (d : PathValue) (e : Component) → IsSome (part (d ++ e ∷ [])) → IsDirectoryAt (part d))
    (part_right : (d : PathValue) → IsSome (part d) → IsRightPath ((p ++ c ∷ []) ++ d)) (part_short : (d : PathValue) → IsShort (text_of (part d)))
    (ps : List PathValue) (all : (d : PathValue) → IsSome (part d) → Contains ps (p ++ c ∷ d)) where
  abbrev at : PathValue
  at = p ++ c ∷ []

  grafted_if : (q : PathValue) (b : Bool) → is_at_or_under q at ≡ b → grafted t at part q ≡ (if b then part (drop (length at) q) else touched_above at t q)
  grafted_if q b h = ap (λ (y : Bool). if y then part (drop (length at) q) else touched_above at t q) h

  inside : (d : PathValue) → grafted t at part (at ++ d) ≡ part d
  inside d = grafted_if (at ++ d) true (under_append at d) ∙ ap part (rest_append at d)

  outside_directory : (q : PathValue) → is_at_or_under q at ≡ false → HasDirectory t q → HasDirectory (grafted t at part) q
  outside_directory q out h = subst IsDirectoryAt (sym (grafted_if q false out)) (touched_directory (is_at_or_under at q) (t q) h)

  some_outside : (q : PathValue) → is_at_or_under q at ≡ false → IsSome (grafted t at part q) → IsSome (t q)
  some_outside q out some = some_touched (is_at_or_under at q) (t q) (subst IsSome (grafted_if q false out) some)

  some_inside : (q : PathValue) → is_at_or_under q at ≡ true → IsSome (grafted t at part q) → IsSome (part (drop (length at) q))
  some_inside q under some = subst IsSome (grafted_if q true under) some

  -- the directory itself isn't under what is put into it
  directory_outside : is_at_or_under p at ≡ false
  directory_outside = not_true (is_at_or_under p at) (λ u. absurd (longer p (drop (length at) p) (under_is p at u)))
    where
      longer : (q r : PathValue) → q ≡ (q ++ c ∷ []) ++ r → ⊥
      longer [] r e = false≢true (ap is_cons e)
        where
          is_cons : PathValue → Bool
          is_cons [] = false
          is_cons (x ∷ xs) = true
      longer (x ∷ q) r e = longer q r (ap tail_of e)

  parents_are : (q : PathValue) (d : Component) → IsSome (grafted t at part (q ++ d ∷ [])) → HasDirectory (grafted t at part) q
  parents_are q d some = by (is_at_or_under (q ++ d ∷ []) at) refl
    where
      from_part : is_at_or_under (q ++ d ∷ []) at ≡ true → is_at_or_under q at ≡ true → HasDirectory (grafted t at part) q
      from_part under u =
          let rest : q ≡ at ++ drop (length at) q = under_is q at u in
          let child : q ++ d ∷ [] ≡ at ++ (drop (length at) q ++ d ∷ []) = ap (λ (x : PathValue). x ++ d ∷ []) rest ∙ append_assoc at (drop (length at) q) (d ∷ []) in
          let there : IsSome (part (drop (length at) q ++ d ∷ [])) = subst IsSome (ap (grafted t at part) child ∙ inside (drop (length at) q ++ d ∷ [])) some in
          subst IsDirectoryAt (sym (grafted_if q true u)) (part_parents (drop (length at) q) d there)

      at_top : q ++ d ∷ [] ≡ at → HasDirectory (grafted t at part) q
      at_top same = subst (HasDirectory (grafted t at part)) (sym (same_parent q p d c same)) (outside_directory p directory_outside has)

      under_it : is_at_or_under (q ++ d ∷ []) at ≡ true → (is_at_or_under q at ≡ true) ⊎ (q ++ d ∷ [] ≡ at) → HasDirectory (grafted t at part) q
      under_it under (inl u) = from_part under u
      under_it under (inr same) = at_top same

      by : (b : Bool) → is_at_or_under (q ++ d ∷ []) at ≡ b → HasDirectory (grafted t at part) q
      by true under = under_it under (beneath_or_at at q (drop (length at) (q ++ d ∷ [])) d (under_is (q ++ d ∷ []) at under))
      by false out = outside_directory q (parent_outside at q d out) (is.parents q d (some_outside (q ++ d ∷ []) out some))

  finite_at : (q : PathValue) → IsSome (grafted t at part q) → Contains (ps ++ is.finite.0) q
  finite_at q some = by (is_at_or_under q at) refl
    where
      by : (b : Bool) → is_at_or_under q at ≡ b → Contains (ps ++ is.finite.0) q
      by true under =
          let path : p ++ c ∷ drop (length at) q ≡ q = sym (append_assoc p (c ∷ []) (drop (length at) q)) ∙ sym (under_is q at under) in
          subst (Contains (ps ++ is.finite.0)) path (Contains-append_left ps is.finite.0 (p ++ c ∷ drop (length at) q) (all (drop (length at) q) (some_inside q under some)))
      by false out = Contains-append_right ps is.finite.0 q (is.finite.1 q (some_outside q out some))

  right_at : (q : PathValue) → IsSome (grafted t at part q) → IsRightPath q
  right_at q some = by (is_at_or_under q at) refl
    where
      by : (b : Bool) → is_at_or_under q at ≡ b → IsRightPath q
      by true under = subst IsRightPath (sym (under_is q at under)) (part_right (drop (length at) q) (some_inside q under some))
      by false out = is.right q (some_outside q out some)

  short_at : (q : PathValue) → IsShort (text_of (grafted t at part q))
  short_at q = by (is_at_or_under q at)
    where
      by : (b : Bool) → IsShort (text_of (if b then part (drop (length at) q) else touched_above at t q))
      by true = part_short (drop (length at) q)
      by false = λ text h. is.short q text (sym (text_touched (is_at_or_under at q) (t q)) ∙ h)

  pub grafted_tree : IsTree (grafted t at part)
  grafted_tree = record {
    root = outside_directory [] (root_outside p c) is.root;
    parents = parents_are;
    finite = (ps ++ is.finite.0, finite_at);
    right = right_at;
    short = short_at;
  }

contains_mapped : (f : PathValue → PathValue) (ps : List PathValue) (p : PathValue) → Contains ps p → Contains (map f ps) (f p)
contains_mapped f ps p there = (there.0, subst (λ (n : ℕ). there.0 < n) (sym (length-map ps f)) there.1, get_or-map f ps there.0 p (f p) there.1 ∙ ap f there.2)

-- ---- what is copied

copy_parents : (source : Tree) (from d : PathValue) (e : Component) → IsTree source → IsSome (copy_of source from (d ++ e ∷ [])) → IsDirectoryAt (copy_of source from d)
copy_parents source from [] e is some = renewed_directory with_open_mark (λ x. refl) (source from) (is.parents from e some)
copy_parents source from (c ∷ d) e is some = is.parents (from ++ c ∷ d) e (subst IsSome (ap source (sym (append_assoc from (c ∷ d) (e ∷ [])))) some)

copy_some : (source : Tree) (from d : PathValue) → IsSome (copy_of source from d) → IsSome (source (from ++ d))
copy_some source from [] some = subst IsSome (ap source (sym (append-nil from))) (some_renewed with_open_mark (source from) some)
copy_some source from (c ∷ d) some = some

copy_short : (source : Tree) (from d : PathValue) → IsTree source → IsShort (text_of (copy_of source from d))
copy_short source from [] is text h = is.short from text (sym (text_renewed with_open_mark (λ e. refl) (source from)) ∙ h)
copy_short source from (c ∷ d) is text h = is.short (from ++ c ∷ d) text h

-- a copy to the path makes no path that is too deep
abbrev pub IsWithinDepth : Tree → PathValue → PathValue → Type 0
IsWithinDepth source from p = (rest : PathValue) → IsSome (source (from ++ rest)) → length (p ++ rest) ≤ DEPTH_LIMIT

copy_right : (source : Tree) (from p d : PathValue) → IsTree source → IsRightPath p → IsWithinDepth source from p → IsSome (copy_of source from d) → IsRightPath (p ++ d)
copy_right source from p d is right room some =
    let there : IsSome (source (from ++ d)) = copy_some source from d some in
    record {
      components = All-append IsComponent p d right.components (subst (All IsComponent) (rest_append from d) (All-drop IsComponent (length from) (from ++ d) (is.right (from ++ d) there).components));
      depth = room d there;
    }

pub copied_tree : (source : Tree) (from : PathValue) (t : Tree) (p : PathValue) (c : Component) → IsTree source → IsTree t → HasDirectory t p → IsRightPath (p ++ c ∷ []) → IsWithinDepth source from (p ++ c ∷ []) → IsTree (copied source from t (p ++ c ∷ []))
copied_tree source from t p c s is has right room =
    grafted_tree t p c (copy_of source from) is has (λ d e. copy_parents source from d e s) (λ d. copy_right source from (p ++ c ∷ []) d s right room) (λ d. copy_short source from d s) (map moved s.finite.0) all
  where
    moved : PathValue → PathValue
    moved q = p ++ c ∷ drop (length from) q

    all : (d : PathValue) → IsSome (copy_of source from d) → Contains (map moved s.finite.0) (p ++ c ∷ d)
    all d some =
        subst (Contains (map moved s.finite.0)) (ap (λ (r : PathValue). p ++ c ∷ r) (rest_append from d))
        (contains_mapped moved s.finite.0 (from ++ d) (s.finite.1 (from ++ d) (copy_some source from d some)))

-- a copy over what stands there
pub replaced_tree : (source : Tree) (from : PathValue) (t : Tree) (p : PathValue) (c : Component) → IsTree source → IsTree t → HasDirectory t p → IsRightPath (p ++ c ∷ []) → IsWithinDepth source from (p ++ c ∷ []) → IsTree (copied source from (deleted t (p ++ c ∷ [])) (p ++ c ∷ []))
replaced_tree source from t p c s is has = copied_tree source from (deleted t (p ++ c ∷ [])) p c s (deleted_tree t p c is) still
  where
    nothing : Tree
    nothing q = None

    none : (d : PathValue) (e : Component) → IsSome (nothing (d ++ e ∷ [])) → IsDirectoryAt (nothing d)
    none d e some = absurd (false≢true some)

    nowhere : (d : PathValue) → IsSome (nothing d) → Contains [] (p ++ c ∷ d)
    nowhere d some = absurd (false≢true some)

    unspelled : (d : PathValue) → IsSome (nothing d) → IsRightPath ((p ++ c ∷ []) ++ d)
    unspelled d some = absurd (false≢true some)

    still : HasDirectory (deleted t (p ++ c ∷ [])) p
    still =
        outside_directory t p c nothing is has none unspelled (λ d. no_text) [] nowhere p
        (directory_outside t p c nothing is has none unspelled (λ d. no_text) [] nowhere) has
