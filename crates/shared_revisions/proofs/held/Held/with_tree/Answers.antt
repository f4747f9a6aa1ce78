use Rattle.std.proofs.Common.{◌≡◌, Some, sym, subst, ◌∙◌, option_map}
use Rattle.svnpath.specs.Paths.{PathValue}
use Rattle.repo_api.specs.Merge.{sealed}
use Rattle.noderevs.specs.{Held.{count, node_at}, Nodes.with_block, Soundness.IsNext, Views.shared_tree}
use Rattle.txntree.specs.{Sealing.IsBlockOf, Whole.txn_tree}
use Rattle.shared_revisions.specs.{Contents.block_tree, Sealed.sealed_tree}
use Rattle.shared_revisions.proofs.{PlacedBlocks.{block_placed, map_again}, Seen.held_many}
use Rattle.shared_revisions.proofs.held.Held.with_tree.Goals as goal

pub seal-requires : goal.seal-requires
seal-requires c = c.count-revision.ensures ∙ held_many c.args.self.now ∙ sym c.args.self.now.even

pub with_revision-requires-clause-next : goal.with_revision-requires-clause-next
with_revision-requires-clause-next c =
    subst (λ r. IsNext (node_at c.args.self.now.nodes) r c.in_ok-block.block)
    (c.count-revision.ensures ∙ held_many c.args.self.now ∙ sym c.args.self.now.even)
    c.in_ok-block.ensures.next

pub with_revision-requires-clause-placed : goal.with_revision-requires-clause-placed
with_revision-requires-clause-placed c =
    let nodes = c.args.self.now.nodes in
    let block = c.in_ok-block.block in
    block_placed (node_at nodes) (count nodes) block
    (subst (λ r. IsBlockOf (node_at nodes) r block.nodes.items block.root)
    (c.count-revision.ensures ∙ held_many c.args.self.now ∙ sym c.args.self.now.even)
    c.in_ok-block.ensures.whole)

pub with_revision-requires-clause-tree : goal.with_revision-requires-clause-tree
with_revision-requires-clause-tree c =
    let nodes = c.args.self.now.nodes in
    let block = c.in_ok-block.block in
    let same : (q : PathValue) → block_tree nodes block q ≡ sealed_tree nodes c.args.tree.now q =
    subst (λ r. (q : PathValue)
    → shared_tree (with_block (node_at nodes) r block.nodes.items) (Some block.root) q
    ≡ option_map (sealed r q) (txn_tree nodes c.args.tree.now q))
    (c.count-revision.ensures ∙ held_many c.args.self.now ∙ sym c.args.self.now.even)
    c.in_ok-block.ensures.tree in
    map_again (block_tree nodes block) (sealed_tree nodes c.args.tree.now) same c.requires.mapped

pub returns : goal.returns
returns c =
    let nodes = c.args.self.now.nodes in
    let block = c.in_ok-block.block in
    let next = c.in_ok-held.ensures in
    let same : (q : PathValue) → block_tree nodes block q ≡ sealed_tree nodes c.args.tree.now q =
    subst (λ r. (q : PathValue)
    → shared_tree (with_block (node_at nodes) r block.nodes.items) (Some block.root) q
    ≡ option_map (sealed r q) (txn_tree nodes c.args.tree.now q))
    (c.count-revision.ensures ∙ held_many c.args.self.now ∙ sym c.args.self.now.even)
    c.in_ok-block.ensures.tree in record {
      more = record {
        block = block;
        blocks = next.blocks;
        change = c.args.changes;
        changes = next.changes;
      };
      revisions = λ m is. next.revisions m (λ p. is p ∙ sym (same p));
      uuid = next.uuid;
      lists = next.lists;
    }
