-- Trees that are known to be sound are shown to be.
use Rattle.std.proofs.{Common.{Bool, ℕ, List, [], ◌∷◌, Option}, Math.Logic.{∥∥₁_elim, ∥∥₁_map}}
use native.Mathlib.Bridge.{le_prop}
use Rattle.std.specs.{Coded.{codes, Coded, Coded-set}, Option.IsSomeAnd-prop, FinMap.keys}
use Rattle.repo_api.specs.{Marks.AreMarked, MergeLaws.key_there, Properties.PropertyList, Soundness.{AreSound, AreTrees}}
use Rattle.repo_api.specs.{States.{Revision, tree_of, TreeMap, trees_in}, Trees.{IsTree, Tree}, declared.entry.Content.Content, declared.entry.Entry.Entry}

bool_coded : Coded Bool
bool_coded = hlevel codes

entry_coded : Coded (Option Entry)
entry_coded = hlevel codes

shown_coded : Coded (Option (Content × PropertyList))
shown_coded = hlevel codes

tree_there : (m : TreeMap) → ∥ IsTree (tree_of m) ∥₁ → IsTree (tree_of m)
tree_there m tree = record {
  root = ∥∥₁_elim tree (IsSomeAnd-prop _ _ (λ e. Coded-set bool_coded _ _)) (λ t. t.root);
  parents = λ p c some.
      ∥∥₁_elim tree (IsSomeAnd-prop _ _ (λ e. Coded-set bool_coded _ _)) (λ t. t.parents p c some);
  finite = (keys m, key_there m);
  right = λ p some. record {
    components = λ k d within.
        ∥∥₁_elim tree (Coded-set bool_coded _ _) (λ t. (t.right p some).components k d within);
    depth = ∥∥₁_elim tree le_prop (λ t. (t.right p some).depth);
  };
  short = λ p text is. ∥∥₁_elim tree le_prop (λ t. t.short p text is);
}

trees_there : (rs : List Revision) → ∥ AreTrees rs ∥₁ → AreTrees rs
trees_there [] trees = tt
trees_there (r ∷ rs) trees =
    (tree_there r.tree (∥∥₁_map trees (λ t. t.0)), trees_there rs (∥∥₁_map trees (λ t. t.1)))

marks_there : (trees : ℕ → Tree) → ∥ AreMarked trees ∥₁ → AreMarked trees
marks_there trees marked = record {
  closed = λ n p. (
    ∥∥₁_elim marked (Coded-set bool_coded _ _) (λ m. (m.closed n p).0),
    ∥∥₁_elim marked (Coded-set bool_coded _ _) (λ m. (m.closed n p).1),
  );
  named = λ n. record {
    by_last = λ p k q is rest.
        ∥∥₁_elim marked (Coded-set entry_coded _ _) (λ m. (m.named n).by_last p k q is rest);
    by_own = λ p k q is.
        ∥∥₁_elim marked (Coded-set shown_coded _ _) (λ m. (m.named n).by_own p k q is);
  };
}

pub sound_there : (rs : List Revision) → ∥ AreSound rs ∥₁ → AreSound rs
sound_there rs sound = (
  trees_there rs (∥∥₁_map sound (λ s. s.0)),
  marks_there (trees_in rs) (∥∥₁_map sound (λ s. s.1)),
)
