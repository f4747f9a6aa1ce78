-- What holds of the blocks of all revisions.
use Rattle.std.specs.Prelude.{◌≡◌, ◌<◌, ◌≤◌, ℕ, List, Option, Some, slice_get}
use Rattle.svnpath.specs.Paths.{Component}
use Rattle.repo_api.specs.declared.entry.Entry.{Entry}
use Rattle.noderevs.specs.{Nodes.{Look, kid_at, kid_of, IsThere, with_block}, Heights.AreHigh, Views.entry_at, declared.node_rev.Block.Block}
use Rattle.noderevs.specs.{declared.node_rev.NodeId.NodeId, declared.node_rev.NodeRev.NodeRev}

-- each entry of a node is there
abbrev pub AreKidsThere : Look → Type 0
AreKidsThere look = (id kid : NodeId) (name : Component) → kid_at look (Some id) name ≡ Some kid → IsThere look kid

-- the root of each revision is there
abbrev pub AreRootsThere : Look → (ℕ → Option NodeId) → Type 0
AreRootsThere look root = (n : ℕ) (id : NodeId) → root n ≡ Some id → IsThere look id

-- two nodes that one revision made at one path are one: so each mark is of one node
abbrev pub AreApart : Look → Type 0
AreApart look =
    (i j : NodeId) (m n : NodeRev) → look i ≡ Some m → look j ≡ Some n → i.rev ≡ j.rev
    → m.path ≡ n.path → i.place ≡ j.place

-- a last change is of one node: unequal ids have unequal last changes
abbrev pub AreLastChangesApart : Look → Type 0
AreLastChangesApart look =
    (a b : NodeId) (x y : Entry) → entry_at look a ≡ Some x → entry_at look b ≡ Some y → x.last ≡ y.last
    → a ≡ b

-- an id is earlier than another: not of a later revision, and in the same one at an earlier place
abbrev pub IsEarlier : NodeId → NodeId → Type 0
IsEarlier a b = (a.rev ≤ b.rev) × (a.rev ≡ b.rev → a.place < b.place)

-- the id of an entry is earlier than that of its directory
abbrev pub AreKidsEarlier : Look → Type 0
AreKidsEarlier look = (id kid : NodeId) (name : Component) → kid_at look (Some id) name ≡ Some kid → IsEarlier kid id

-- an entry that is a node of the same block is in front of its directory
abbrev pub AreInFront : ℕ → List NodeRev → Type 0
AreInFront rev nodes =
    (place : ℕ) (node : NodeRev) (name : Component) (kid : NodeId) → slice_get nodes place ≡ Some node
    → kid_of name node ≡ Some kid → kid.rev ≡ rev → kid.place < place

-- a block that may come behind those that are there, as that of a revision: its entries and its root
-- are there, an entry in front of its directory, no two of its nodes stand at one path, and each has
-- its height
pub record IsNext (look : Look) (rev : ℕ) (block : Block) : Type 0 where
  pub kids : AreKidsThere (with_block look rev block.nodes.items)
  pub root : IsThere (with_block look rev block.nodes.items) block.root
  pub apart : (j k : ℕ) (m n : NodeRev) → slice_get block.nodes.items j ≡ Some m
      → slice_get block.nodes.items k ≡ Some n → m.path ≡ n.path → j ≡ k
  pub high : AreHigh (with_block look rev block.nodes.items)
  pub front : AreInFront rev block.nodes.items
