-- The change of a path, among changes in the order of their paths.
use Rattle.std.proofs.{Common.{◌≡◌, ℕ, true, false, Option, Some, None, HoldsAt, option_map, slice_get, refl, sym, ap, ◌∙◌}, lemmas.Bool.false≢true}
use Rattle.std.proofs.lemmas.Option.{get_or_from_slice_get, same_Some}
use Rattle.std.specs.{List.Sorted.{IsNonDecreasingBy, IsPartitionPoint, IsStrictlySortedBy}, Map.keys_of, Ordering.ordering_index, Prelude.is_some}
use Rattle.std.specs.declared.cmp.Ordering.TheVariants.{Less, Equal, Greater}
use Rattle.svnpath.specs.Paths.{path_cmp, path_cmp-IsAntisymmetric, PathValue}
use Rattle.repo_api.specs.declared.change.Change.{Change}
use Rattle.revision_data.specs.Found.{found}
use Rattle.block_rules.proofs.Searching.{hit, miss}
use Rattle.filed_trees.specs.Changes.{ChangeRows}

abbrev pub at_path : PathValue → Change → PathValue × Change
at_path q c = (q, c)

module _ (rows : ChangeRows) (sorted : IsStrictlySortedBy path_cmp (keys_of rows)) (q : PathValue) where
  -- a search ended at it
  pub sought : (i : ℕ) (e : PathValue × Change) → HoldsAt (λ y. path_cmp y.0 q ≡ Equal) rows i → slice_get rows i ≡ Some e
      → Some e ≡ option_map (at_path q) (found rows q)
  sought i e equal at =
      let here : path_cmp e.0 q ≡ Equal = ap (λ (x : PathValue × Change). path_cmp x.0 q) (sym (get_or_from_slice_get rows i e e at)) ∙ equal e in
      ap (λ p. Some (p, e.1)) (path_cmp-IsAntisymmetric e.0 q here)
      ∙ sym (ap (option_map (at_path q)) (hit rows sorted q i e equal at))

  -- it ended at a gap
  pub unsought : (i : ℕ) → (IsNonDecreasingBy (λ y. ordering_index (path_cmp y.0 q)) rows
      → IsPartitionPoint (λ y. path_cmp y.0 q ≡ Less) (λ y. path_cmp y.0 q ≡ Greater) rows i)
      → None ≡ option_map (at_path q) (found rows q)
  unsought i parts = sym (ap (option_map (at_path q)) (miss rows sorted q i parts))

-- what was found is at its path
pub at_its_path : (q : PathValue) (e : PathValue × Change) (o : Option Change) → Some e ≡ option_map (at_path q) o
    → (e.0 ≡ q) × (true ≡ is_some o)
at_its_path q e None is = absurd (false≢true (ap is_some (sym is)))
at_its_path q e (Some c) is = (ap (λ (p : PathValue × Change). p.0) (same_Some e (q, c) is), refl)

pub nowhere : (q : PathValue) (o : Option Change) → None ≡ option_map (at_path q) o → false ≡ is_some o
nowhere q None is = refl
nowhere q (Some c) is = absurd (false≢true (ap is_some is))
