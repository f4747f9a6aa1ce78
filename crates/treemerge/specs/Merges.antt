-- The merge of a transaction's tree into the youngest, path by path. Marks stay open; the seal fills them.
use Rattle.std.specs.{Prelude.{◌≡◌, Bool, true, false, ◌&&◌, Option, Some, option_map, if◌then◌else◌, ◌++◌, Result, Ok, Err, option_and_then}, Arc.arc_value}
use Rattle.svnpath.specs.Paths.{Component, PathValue}
use Rattle.noderevs.specs.{Nodes.{IsThere, kid_at, Look, mark_of}, declared.node_rev.NodeId.NodeId, declared.node_rev.NodeRev.NodeRev}
use Rattle.txntree.specs.{Bases.{IsBased, IsFit}, Spots.{changed_at, flat, over, shared_spot, Spot}, Spots.Spot.Opened, Walks.beneath}
use Rattle.txntree.specs.{declared.open.OpenNode.OpenNode, declared.open.Change.Change}
use Rattle.treemerge.specs.{declared.merging.Places.Places, declared.merging.MergeFault.MergeFault}
use Rattle.treemerge.specs.declared.merging.MergeFault.TheVariants.{Conflict, NoMemory}
use Rattle.repo_api.specs.{Edits.touched, Merge.{has_open_last, is_in_conflict, is_untouched}, Trees.{is_directory_content, same_mark, Tree}}
use Rattle.repo_api.specs.declared.entry.Entry.{Entry}

-- the merged entry, with open marks left open, which the seal closes
abbrev pub merged_open : Option Entry → Option Entry → Option Entry → Option Entry
merged_open a s t =
    if is_untouched a s then (if has_open_last s then option_map touched t else t) else s

-- where the transaction left an entry it is the old one, but for `last`
abbrev pub IsTold : Tree → Tree → Type 0
IsTold a s = (q : PathValue) → is_untouched (a q) (s q) ≡ true → s q ≡ (if has_open_last (s q) then option_map touched (a q) else a q)

abbrev pub spot_tree : Look → Option NodeId → Tree
spot_tree look o = flat look (shared_spot o)

-- the spot's tree is the merged one, and no path is in conflict
abbrev pub IsMergeOf : Look → Spot → Tree → Tree → Tree → Type 0
IsMergeOf look spot a s t =
    (q : PathValue)
    → (flat look spot q ≡ merged_open (a q) (s q) (t q)) × (is_in_conflict (a q) (s q) (t q) ≡ false)

abbrev pub IsMerged : Look → OpenNode → Option NodeId → Option NodeId → Component → Option Change → Type 0
IsMerged look self base young n o =
    IsTold (spot_tree look base) (flat look (Opened self)) → self.base ≡ base
    → IsMergeOf look (over o (shared_spot (kid_at look young n))) (beneath n (spot_tree look base))
    (beneath n (flat look (Opened self))) (beneath n (spot_tree look young))

-- what stands at two places may be merged with a spot: it is there, and the spot's open nodes stand over it
pub record IsMergeable (look : Look) (places : Places) (s : Spot) : Type 0 where
  pub base : (id : NodeId) → places.base ≡ Some id → IsThere look id
  pub young : (id : NodeId) → places.young ≡ Some id → IsThere look id
  pub based : IsBased look s
  pub over : IsFit look places.base s

-- a path at or under this one is in conflict; the trees are those under this path
abbrev pub IsConflictUnder : PathValue → Tree → Tree → Tree → PathValue → Type 0
IsConflictUnder path a s t p =
    (q : PathValue) × (p ≡ path ++ q) × (is_in_conflict (a q) (s q) (t q) ≡ true)

-- what a refused merge says of the path that it names
abbrev pub IfConflict : {T : Type 0} → Result T MergeFault → (PathValue → Type 0) → Type 0
IfConflict (Ok _) P = Unit {0}
IfConflict (Err (Conflict p)) P = P p
IfConflict (Err NoMemory) P = Unit {0}

-- three that are one directory
abbrev pub is_one : OpenNode → NodeRev → NodeRev → Bool
is_one self was theirs =
    (is_directory_content (arc_value was.content) && is_directory_content (arc_value self.content) && is_directory_content (arc_value theirs.content))
    && (same_mark (mark_of was.own) self.own && same_mark (mark_of was.own) (mark_of theirs.own))

-- a directory that the transaction has changed only beneath, and that has stayed the same itself
pub record IsKept (look : Look) (node : OpenNode) (places : Places) (theirs : NodeRev) : Type 0 where
  pub was : NodeRev
  pub old : option_and_then look places.base ≡ Some was
  pub now : option_and_then look places.young ≡ Some theirs
  pub one : is_one node was theirs ≡ true
  pub same : node.base ≡ places.base
