use Rattle.std.proofs.Common.{◌≡◌, [], ◌∷◌, ◌++◌, Some, length, sym, ap, ◌∙◌}
use Rattle.svnpath.specs.Paths.{PathValue}
use Rattle.repo_api.specs.{Opening.opening_tree, States.tree_of}
use Rattle.noderevs.specs.{Held.{blocks_of, node_at, count, trees_of}, Nodes.{node_in, with_block}, OpeningBlocks.AreOpening, Views.shared_tree}
use Rattle.noderevs.specs.declared.nodes.Nodes.{Nodes}
use Rattle.noderevs.proofs.FirstBlock.{opening_trees, ok_weaker}
use Rattle.noderevs.proofs.nodes.Nodes.opened.Goals as goal

pub returns-clause-tree : goal.returns-clause-tree
returns-clause-tree c =
    let block = c.in_ok-block.block in
    ok_weaker c.with_block.result
    (λ (nodes : Nodes). (q : PathValue) → trees_of nodes (count c.in_ok-nodes.nodes) q ≡ shared_tree (with_block (node_at c.in_ok-nodes.nodes) (count c.in_ok-nodes.nodes) block.nodes.items) (Some block.root) q)
    (λ (nodes : Nodes). (q : PathValue) → trees_of nodes 0 q ≡ tree_of opening_tree q)
    (λ nodes tree q. ap (λ bs. trees_of nodes (length bs) q) (sym c.in_ok-nodes.ensures) ∙ tree q
    ∙ ap (λ bs. shared_tree (with_block (node_in bs) (length bs) block.nodes.items) (Some block.root) q) c.in_ok-nodes.ensures
    ∙ opening_trees block c.in_ok-block.ensures q) c.with_block.ensures.tree

pub returns-clause-blocks : goal.returns-clause-blocks
returns-clause-blocks c =
    let block = c.in_ok-block.block in
    ok_weaker c.with_block.result
    (λ (nodes : Nodes). blocks_of nodes ≡ blocks_of c.in_ok-nodes.nodes ++ block ∷ [])
    (λ (nodes : Nodes). AreOpening (blocks_of nodes))
    (λ nodes is. record {
      block = block;
      is = c.in_ok-block.ensures;
      alone = is ∙ ap (λ bs. bs ++ block ∷ []) c.in_ok-nodes.ensures;
    })
    c.with_block.ensures.blocks
