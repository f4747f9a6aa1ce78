-- The node revisions of a new revision, behind those that are there.
use Rattle.std.specs.Prelude.{◌≡◌, ◌≤◌, ◌<◌, length, ℕ, List, [], ◌∷◌, ◌++◌, Option, Some, None, IsSome, IfSome, option_map, slice_get, if◌then◌else◌}
use Rattle.svnpath.specs.Paths.{Component, PathValue, same_component}
use Rattle.repo_api.specs.{Merge.sealed, Trees.Tree, declared.entry.Entry.Entry}
use Rattle.noderevs.specs.{Heights.AreHigh, Nodes.{Grows, IsBefore, IsClosed, IsThere, kid_at, kid_named, Kids, Look, with_block}, Soundness.AreInFront}
use Rattle.noderevs.specs.{declared.node_rev.Block.Block, declared.node_rev.NodeId.NodeId, declared.node_rev.NodeRev.NodeRev}
use Rattle.txntree.specs.{Spots.{Spot, flat, find, step, shared_spot, change_spot}, Spots.Spot.{Shared, Opened}, declared.open.OpenNode.OpenNode}
use Rattle.txntree.specs.declared.open.Change.{Change}
use Rattle.repo_api.specs.declared.entry.Mark.TheVariants as mark

-- the tree of a path as that of the revision
abbrev pub sealed_at : ℕ → PathValue → Tree → Tree
sealed_at rev path t q = option_map (sealed rev (path ++ q)) (t q)

-- each entry is a node that is there
abbrev pub AreThere : Look → Kids → Type 0
AreThere look kids = (name : Component) → IfSome (kid_named kids name) (IsThere look)

-- the tree of each entry
abbrev pub kid_trees : Look → Kids → Component → Tree
kid_trees look kids n = flat look (shared_spot (kid_named kids n))

-- what is sealed already, and the changes that are left
abbrev pub unless_changed : Look → ℕ → PathValue → Option Change → Tree → Tree
unless_changed look rev path None before = before
unless_changed look rev path (Some change) before = sealed_at rev path (flat look (change_spot change))

abbrev pub placed : ℕ → ℕ → NodeId
placed rev place = record { rev = rev; place = place }

-- a path leads from the node, if there is one, or from one of the entries, to a place
abbrev pub IsUnder : Look → Option NodeId → NodeId → Type 0
IsUnder look o place = (r : PathValue) × (find look r (shared_spot o) ≡ Shared place)

abbrev pub IsUnderOne : Look → Kids → NodeId → Type 0
IsUnderOne look kids place = (n : Component) × IsUnder look (kid_named kids n) place

-- each of these places is under the node, or under one of the entries
abbrev pub AreUnder : Look → ℕ → ℕ → ℕ → Option NodeId → Type 0
AreUnder look rev from to o = (k : ℕ) → from ≤ k → k < to → IsUnder look o (placed rev k)

abbrev pub AreUnderOne : Look → ℕ → ℕ → ℕ → Kids → Type 0
AreUnderOne look rev from to kids = (k : ℕ) → from ≤ k → k < to → IsUnderOne look kids (placed rev k)

-- entries with this node at a name, or without the name where there is none, and else as before
abbrev pub HasEntry : Component → Option NodeId → Kids → Kids → Type 0
HasEntry name o before after = (n : Component)
    → kid_named after n ≡ (if same_component name n then o else kid_named before n)

-- a block of one node for each path that was changed in the revision, under its own path, and of no other
pub record IsBlockOf (look : Look) (rev : ℕ) (block : List NodeRev) (root : NodeId) : Type 0 where
  pub each : (q : PathValue) (e : Entry) → flat (with_block look rev block) (Shared root) q ≡ Some e → e.last ≡ mark.Made rev q
      → (k : ℕ) × ((node : NodeRev) × ((slice_get block k ≡ Some node) × (node.path ≡ q)))
  pub other : (k : ℕ) (node : NodeRev) → slice_get block k ≡ Some node
      → (e : Entry) × ((flat (with_block look rev block) (Shared root) node.path ≡ Some e)
      × (e.last ≡ mark.Made rev node.path))
  pub once : (j k : ℕ) (m n : NodeRev) → slice_get block j ≡ Some m → slice_get block k ≡ Some n
      → m.path ≡ n.path → j ≡ k

-- what a tree is sealed as: a block whose nodes, with those that are there, are closed and have
-- their heights, each behind its entries, and whose root has that tree with closed marks
pub record IsSealOf (look : Look) (rev : ℕ) (t : Tree) (b : Block) : Type 0 where
  pub closed : IsClosed (with_block look rev b.nodes.items)
  pub high : AreHigh look → AreHigh (with_block look rev b.nodes.items)
  pub front : AreInFront rev b.nodes.items
  pub tree : (q : PathValue)
      → flat (with_block look rev b.nodes.items) (Shared b.root) q ≡ sealed_at rev [] t q
  pub whole : IsBlockOf look rev b.nodes.items b.root

-- P, where the nodes that are there are closed, none is of the revision, and those of the block are
-- closed with them
abbrev pub IfClosed : Look → ℕ → List NodeRev → Type 0 → Type 0
IfClosed look rev block P =
    IsClosed look → IsBefore look rev → IsClosed (with_block look rev block) → P

-- a block has grown: the nodes that were there stay, and all are closed, have their heights and are
-- behind their entries as before
pub record BlockGrows (look : Look) (rev : ℕ) (before now : List NodeRev) : Type 0 where
  pub grows : Grows (with_block look rev before) (with_block look rev now)
  pub closed : IfClosed look rev before (IsClosed (with_block look rev now))
  pub high : IfClosed look rev before (AreHigh (with_block look rev before)
      → AreHigh (with_block look rev now))
  pub front : IfClosed look rev before (AreInFront rev before → AreInFront rev now)

-- what stands at a path is sealed as this node, or as none where nothing stands: it is there, has the
-- tree as that of the revision, and each place that is new in the block is under it
pub record IsSealedAs (look : Look) (rev : ℕ) (path : PathValue) (before now : List NodeRev)
    (spot : Spot) (o : Option NodeId) : Type 0 where
  pub there : IfSome o (IsThere (with_block look rev now))
  pub tree : IfClosed look rev before ((q : PathValue)
      → flat (with_block look rev now) (shared_spot o) q ≡ sealed_at rev path (flat look spot) q)
  pub under : IfClosed look rev before
      (AreUnder (with_block look rev now) rev (length before) (length now) o)

-- what a seal has done by the time that these changes are left
pub record IsSealing (look : Look) (rev : ℕ) (path : PathValue) (self : OpenNode)
    (before now : List NodeRev) (left : Component → Option Change) (kids : Kids) : Type 0 where
  pub grown : BlockGrows look rev before now
  pub there : IsClosed look → IsBefore look rev → AreThere (with_block look rev now) kids
  pub trees : IfClosed look rev before ((n : Component) (q : PathValue)
      → unless_changed look rev (path ++ n ∷ []) (left n) (kid_trees (with_block look rev now) kids n) q
      ≡ sealed_at rev (path ++ n ∷ []) (flat look (step look n (Opened self))) q)
  pub under : IfClosed look rev before
      (AreUnderOne (with_block look rev now) rev (length before) (length now) kids)
  pub waiting : (n : Component) → IsSome (left n) → kid_named kids n ≡ kid_at look self.base n
