use Rattle.std.proofs.Common.{◌≡◌, Some, option_map, sym, subst, ◌∙◌}
use Rattle.repo_api.specs.Merge.{sealed}
use Rattle.svnpath.specs.Paths.{PathValue}
use Rattle.noderevs.specs.{Held.{blocks_of, node_at}, Nodes.{IsBefore, with_block}, Views.shared_tree}
use Rattle.noderevs.proofs.Pushing.{next_is_free}
use Rattle.txntree.specs.{Sealing.{IsBlockOf, IsSealOf}, Whole.txn_tree}
use Rattle.txntree.proofs.{Blocks.{closed_is, next_if, ok_weaker}, Sharing.shared_flat}
use Rattle.txntree.proofs.tree.TxnTree.seal.Goals as goal

pub returns-clause-next : goal.returns-clause-next
returns-clause-next c =
    let look = node_at c.args.nodes.now in
    let closed = closed_is look c.args.nodes.now.kids in
    let free = subst (IsBefore look) (sym c.requires) (next_is_free (blocks_of c.args.nodes.now)) in
    next_if c.block.result look c.args.rev (txn_tree c.args.nodes.now c.args.self.now) c.args.nodes.now.high (c.block.ensures.ok closed free) c.block.ensures.there

pub returns-clause-tree : goal.returns-clause-tree
returns-clause-tree c =
    let look = node_at c.args.nodes.now in
    let rev = c.args.rev in
    let closed = closed_is look c.args.nodes.now.kids in
    let free = subst (IsBefore look) (sym c.requires) (next_is_free (blocks_of c.args.nodes.now)) in
    ok_weaker c.block.result
    (IsSealOf look rev (txn_tree c.args.nodes.now c.args.self.now))
    (λ b. (q : PathValue) → shared_tree (with_block look rev b.nodes.items) (Some b.root) q ≡ option_map (sealed rev q) (txn_tree c.args.nodes.now c.args.self.now q))
    (λ b is q. sym (shared_flat (with_block look rev b.nodes.items) (Some b.root) q) ∙ is.tree q) (c.block.ensures.ok closed free)

pub returns-clause-whole : goal.returns-clause-whole
returns-clause-whole c =
    let look = node_at c.args.nodes.now in
    let closed = closed_is look c.args.nodes.now.kids in
    let free = subst (IsBefore look) (sym c.requires) (next_is_free (blocks_of c.args.nodes.now)) in
    ok_weaker c.block.result (IsSealOf look c.args.rev (txn_tree c.args.nodes.now c.args.self.now)) (λ b. IsBlockOf look c.args.rev b.nodes.items b.root)
    (λ b is. is.whole) (c.block.ensures.ok closed free)
