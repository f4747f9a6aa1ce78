-- A tree as the one finite map that has the same at each path.
use Rattle.std.proofs.{Common.{◌≡◌, Option, sym, ◌∙◌}, Math.Logic.∥∥₁_elim}
use mathlib.Core.HLevel.{Σ_prop_path}
use Rattle.std.specs.{Coded.{codes, Coded, Coded-set, Π_prop}, FinMap.get}
use Rattle.svnpath.specs.Paths.{PathValue}
use Rattle.repo_api.specs.{MergeLaws.map_of_is, MergedMaps.map_of, StateLaws.same_tree, States.TreeMap, Trees.{IsTree, Tree}, declared.entry.Entry.Entry}

entries_coded : Coded (Option Entry)
entries_coded = hlevel codes

abbrev pub IsMapOf : Tree → TreeMap → Type 0
IsMapOf t m = (p : PathValue) → get m p ≡ t p

pub IsMapOf-prop : (t : Tree) (m : TreeMap) → IsProp (IsMapOf t m)
IsMapOf-prop t m = Π_prop (λ p. Coded-set entries_coded (get m p) (t p))

-- the map of a tree
abbrev pub Mapped : Tree → Type 0
Mapped t = (m : TreeMap) × IsMapOf t m

-- there is one at most
pub one_map : (t : Tree) → IsProp (Mapped t)
one_map t u v = Σ_prop_path (IsMapOf-prop t) (same_tree u.0 v.0 (λ p. u.1 p ∙ sym (v.1 p)))

-- and one of each tree, which has finitely many entries
pub mapped : (t : Tree) → ∥ IsTree t ∥₁ → Mapped t
mapped t is =
    ∥∥₁_elim is (one_map t) (λ s. (map_of s.finite.0 t, map_of_is s.finite.0 t s.finite.1))
