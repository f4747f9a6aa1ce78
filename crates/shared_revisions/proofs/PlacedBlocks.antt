-- The nodes of a sealed block stand at their paths.
use Rattle.std.proofs.{Common.{◌≡◌, ◌==◌, ℕ, [], Option, Some, None, is_some, option_map, option_and_then, refl, sym, ap, ◌∙◌}, lemmas.Bool.false≢true}
use Rattle.std.proofs.Math.Logic.{∥∥₁_map}
use Rattle.std.specs.Prelude.{if◌then◌else◌, slice_get}
use Rattle.svnpath.specs.Paths.{PathValue}
use Rattle.repo_api.specs.{Trees.Tree, declared.entry.Entry.Entry, declared.entry.Mark.Mark, declared.entry.Mark.TheVariants.{Open, Made}}
use Rattle.noderevs.specs.{Nodes.{Look, with_block}, Views.{entry_at, find_id, shared_entry}, declared.node_rev.Block.Block, declared.node_rev.NodeId.NodeId}
use Rattle.noderevs.specs.declared.node_rev.NodeRev.{NodeRev}
use Rattle.noderevs.proofs.Pushing.{same_number}
use Rattle.txntree.specs.Sealing.{IsBlockOf}
use Rattle.txntree.proofs.Sharing.{shared_flat}
use Rattle.shared_revisions.specs.{Maps.Mapped, Placed.IsPlacedBlock}

abbrev last_or : Option Entry → Mark
last_or None = Open
last_or (Some e) = e.last

abbrev mark_path : Mark → PathValue
mark_path Open = []
mark_path (Made r p) = p

abbrev mark_rev : Mark → ℕ
mark_rev Open = 0
mark_rev (Made r p) = r

module _ (look : Look) (rev : ℕ) (block : Block)
    (whole : IsBlockOf look rev block.nodes.items block.root) where
  abbrev w : Look
  w = with_block look rev block.nodes.items

  in_block : (id : NodeId) (n : NodeRev) → w id ≡ Some n → id.rev ≡ rev
      → slice_get block.nodes.items id.place ≡ Some n
  in_block id n at here =
      sym (ap (λ b. if b then slice_get block.nodes.items id.place else look id)
      (ap (λ r. r == rev) here ∙ same_number rev)) ∙ at

  at_node : (k : ℕ) (node : NodeRev) → slice_get block.nodes.items k ≡ Some node
      → (id : NodeId) (e : Entry) → e.last ≡ Made rev node.path
      → (found : Option NodeRev) → w id ≡ found → option_map (shared_entry id) found ≡ Some e
      → ◌≡◌ {A = Option NodeId} (Some id) (Some (record { rev = rev; place = k }))
  at_node k node is id e last None at shown = absurd (false≢true (ap is_some shown))
  at_node k node is id e last (Some n) at shown =
      let same : Made id.rev n.path ≡ Made rev node.path = ap last_or shown ∙ last in
      let here : id.rev ≡ rev = ap mark_rev same in
      let place : id.place ≡ k =
      whole.once id.place k n node (in_block id n at here) is (ap mark_path same) in
      λ i. Some (record { rev = here i; place = place i })

  at_id : (k : ℕ) (node : NodeRev) → slice_get block.nodes.items k ≡ Some node → (e : Entry)
      → e.last ≡ Made rev node.path
      → (o : Option NodeId) → option_and_then (entry_at w) o ≡ Some e
      → o ≡ Some (record { rev = rev; place = k })
  at_id k node is e last None shown = absurd (false≢true (ap is_some shown))
  at_id k node is e last (Some id) shown = at_node k node is id e last (w id) refl shown

  pub block_placed : IsPlacedBlock look rev block
  block_placed k node is =
      let o = whole.other k node is in
      at_id k node is o.0 o.1.1 (find_id w node.path (Some block.root))
      (sym (shared_flat w (Some block.root) node.path) ∙ o.1.0)

-- a tree that has the same everywhere has the same map
pub map_again : (s t : Tree) → ((q : PathValue) → s q ≡ t q) → ∥ Mapped t ∥₁ → ∥ Mapped s ∥₁
map_again s t same mapped = ∥∥₁_map mapped (λ m. (m.0, λ p. m.1 p ∙ sym (same p)))
