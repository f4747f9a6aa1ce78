-- Node revisions: which node an id names, and which entries a directory has.
use Rattle.std.specs.Prelude.{◌≡◌, ◌==◌, ℕ, false, List, Option, Some, None, option_and_then, option_map, slice_get, IsSome, IfSome, if◌then◌else◌}
use Rattle.std.specs.FinMap.{FinMap, get}
use Rattle.shared_map.specs.Entries.{by_bytes}
use Rattle.svnpath.specs.Paths.{Component}
use Rattle.repo_api.specs.declared.entry.Mark.{Mark}
use Rattle.repo_api.specs.declared.entry.Mark.TheVariants as mark
use Rattle.noderevs.specs.{declared.node_rev.Block.Block, declared.node_rev.Made.Made, declared.node_rev.NodeId.NodeId, declared.node_rev.NodeRev.NodeRev}

-- which node an id names
abbrev pub Look : Type 0
Look = NodeId → Option NodeRev

-- the node of an id, in the blocks of the revisions from 0 on
abbrev pub node_in : List Block → Look
node_in blocks id =
    option_and_then (λ b. slice_get b.nodes.items id.place) (slice_get blocks id.rev)

-- the root of a revision
abbrev pub root_in : List Block → ℕ → Option NodeId
root_in blocks n = option_map (λ b. b.root) (slice_get blocks n)

-- the ids of a directory's entries, by their names
abbrev pub Kids : Type 0
Kids = FinMap by_bytes NodeId

abbrev pub kid_named : Kids → Component → Option NodeId
kid_named kids name = get kids name

abbrev pub kid_of : Component → NodeRev → Option NodeId
kid_of name node = kid_named node.kids name

-- the id of an entry of a directory
abbrev pub kid_at : Look → Option NodeId → Component → Option NodeId
kid_at look None name = None
kid_at look (Some id) name = option_and_then (kid_of name) (look id)

abbrev pub IsThere : Look → NodeId → Type 0
IsThere look id = IsSome (look id)

-- each entry of a node that is there is there
abbrev pub IsClosed : Look → Type 0
IsClosed look = (id : NodeId) (name : Component) → IfSome (kid_at look (Some id) name) (IsThere look)

-- no node is of the revision yet
abbrev pub IsBefore : Look → ℕ → Type 0
IsBefore look rev = (id : NodeId) → IsSome (look id) → (id.rev == rev) ≡ false

-- each node that is there stays
abbrev pub Grows : Look → Look → Type 0
Grows before after = (id : NodeId) → IsSome (before id) → after id ≡ before id

-- beside the nodes that are there, those of a block
abbrev pub with_block : Look → ℕ → List NodeRev → Look
with_block look rev block id = if id.rev == rev then slice_get block id.place else look id

abbrev pub mark_of : Made → Mark
mark_of m = mark.Made m.rev m.path
