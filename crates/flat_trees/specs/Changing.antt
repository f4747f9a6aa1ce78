-- What is made of a tree.
use Rattle.std.specs.{Prelude.{◌≡◌, List, Result, MatchResult}, FinMap.get}
use Rattle.svnpath.specs.Paths.{PathValue}
use Rattle.repo_api.specs.{States.{tree_of, TreeMap}, Trees.Tree, declared.entry.Entry.Entry}
use Rattle.revision_data.specs.Found.{found}

-- the map has the same at each path as the tree
abbrev pub IsMapOf : Tree → TreeMap → Type 0
IsMapOf t m = (q : PathValue) → get m q ≡ t q

-- so have the entries of a list
abbrev pub AreOf : Tree → List (PathValue × Entry) → Type 0
AreOf t es = (q : PathValue) → found es q ≡ t q

-- a change is applied to the tree; or, where there is an error, the tree stays as it was
abbrev pub Applies : {T E : Type 0} → Result T E → TreeMap → TreeMap → (Tree → Tree) → Type 0
Applies result old new change =
    MatchResult result (λ _. IsMapOf (change (tree_of old)) new) (λ _. new ≡ old)
