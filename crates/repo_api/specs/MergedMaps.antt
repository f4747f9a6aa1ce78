-- A merge of the maps in states.
use Rattle.std.specs.{Prelude.{◌≡◌, ℕ, Bool, true, false, List, [], ◌∷◌, ◌++◌, Option, Some, None}, List.list_any, FinMap.{get, insert, empty, keys}}
use Rattle.svnpath.specs.Paths.{PathValue}
use Rattle.repo_api.specs.{Trees.Tree, Merge.{is_in_conflict, merged}, States.{TreeMap, tree_of}, declared.entry.Entry.Entry}

-- some path is in conflict: one of the base or of the transaction
abbrev pub has_conflict : TreeMap → TreeMap → TreeMap → Bool
has_conflict base txn youngest =
    list_any (λ p. is_in_conflict (get base p) (get txn p) (get youngest p)) (keys base ++ keys txn)

-- a path in conflict, whichever, or none where none is
abbrev pub IsConflict : TreeMap → TreeMap → TreeMap → Option PathValue → Type 0
IsConflict base txn youngest None = has_conflict base txn youngest ≡ false
IsConflict base txn youngest (Some p) =
    is_in_conflict (get base p) (get txn p) (get youngest p) ≡ true

abbrev pub with_entry : TreeMap → PathValue → Option Entry → TreeMap
with_entry m p None = m
with_entry m p (Some e) = insert m p e

-- what a tree has at these paths
abbrev pub map_of : List PathValue → Tree → TreeMap
map_of [] t = empty
map_of (p ∷ ps) t = with_entry (map_of ps t) p (t p)

-- the tree of revision n: what stands in it stood in the transaction or in the youngest revision
abbrev pub merged_map : ℕ → TreeMap → TreeMap → TreeMap → TreeMap
merged_map n base txn youngest =
    map_of (keys txn ++ keys youngest) (merged n (tree_of base) (tree_of txn) (tree_of youngest))
