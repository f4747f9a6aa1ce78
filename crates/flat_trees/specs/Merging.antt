-- A merge of maps, path by path.
use Rattle.std.specs.{Prelude.{◌≡◌, ℕ, Bool, true, false, List, Option, None, Some, is_some, if◌then◌else◌}, FinMap.get, List.list_any, Option.option_or}
use Rattle.svnpath.specs.Paths.{PathValue}
use Rattle.repo_api.specs.{Merge.{is_in_conflict, merged}, States.{tree_of, TreeMap}, Trees.Tree}

-- whether p of the transaction's map is in conflict
abbrev pub conflict_at : TreeMap → TreeMap → TreeMap → PathValue → Bool
conflict_at base txn youngest p = is_in_conflict (get base p) (get txn p) (get youngest p)

-- one of these paths that passes the test, or none where none does
abbrev pub Finds : (PathValue → Bool) → List PathValue → Option PathValue → Type 0
Finds test paths None = list_any test paths ≡ false
Finds test paths (Some p) = test p ≡ true

-- what the merge has at each path
abbrev pub merged_at : ℕ → TreeMap → TreeMap → TreeMap → Tree
merged_at n base txn youngest = merged n (tree_of base) (tree_of txn) (tree_of youngest)

-- at the keys of a map what the tree has, over the old
abbrev pub put_over : TreeMap → Tree → Tree → Tree
put_over keys t old q = option_or (if is_some (get keys q) then t q else None) (old q)
