use Rattle.std.proofs.Common.{◌++◌, ◌∷◌, [], length, sym, ap, subst, ◌∙◌}
use Rattle.noderevs.specs.{Held.blocks_of, Nodes.{node_in, root_in}, Heights.AreHigh, Soundness.{AreKidsThere, AreRootsThere, AreApart, AreKidsEarlier}}
use Rattle.noderevs.specs.Views.{shared_tree}
use Rattle.noderevs.proofs.Pushing.{pushed_look, kids_pushed, roots_pushed, high_pushed, apart_pushed, earlier_pushed, last_tree, other_tree}
use Rattle.noderevs.proofs.nodes.Nodes.with_block.Goals as goal

pub invariant_of-result : goal.invariant_of-result
invariant_of-result c =
    let old = blocks_of c.args.self.now in
    let same = sym (c.in_ok-blocks.ensures ∙ ap (λ x. old ++ x ∷ []) c.in_ok-more.ensures.ok) in
    record {
      kids = subst (λ bs. AreKidsThere (node_in bs)) same (kids_pushed old c.args.block c.requires.next);
      roots = subst (λ bs. AreRootsThere (node_in bs) (root_in bs)) same (roots_pushed old c.args.block c.args.self.now.roots c.requires.next);
      high = subst (λ bs. AreHigh (node_in bs)) same (high_pushed old c.args.block c.requires.next);
      apart = subst (λ bs. AreApart (node_in bs)) same (apart_pushed old c.args.block c.args.self.now.apart c.requires.next);
      earlier = subst (λ bs. AreKidsEarlier (node_in bs)) same (earlier_pushed old c.args.block c.args.self.now.earlier c.requires.next);
    }

pub returns-clause-nodes : goal.returns-clause-nodes
returns-clause-nodes c = λ id.
    ap (λ bs. node_in bs id) (c.in_ok-blocks.ensures ∙ ap (λ x. blocks_of c.args.self.now ++ x ∷ []) c.in_ok-more.ensures.ok)
    ∙ pushed_look (blocks_of c.args.self.now) c.args.block id

pub returns-clause-tree : goal.returns-clause-tree
returns-clause-tree c = λ q.
    let old = blocks_of c.args.self.now in
    ap (λ bs. shared_tree (node_in bs) (root_in bs (length old)) q) (c.in_ok-blocks.ensures ∙ ap (λ x. blocks_of c.args.self.now ++ x ∷ []) c.in_ok-more.ensures.ok)
    ∙ last_tree old c.args.block q

pub returns-clause-stays : goal.returns-clause-stays
returns-clause-stays c = λ k lt q.
    let old = blocks_of c.args.self.now in
    ap (λ bs. shared_tree (node_in bs) (root_in bs k) q) (c.in_ok-blocks.ensures ∙ ap (λ x. blocks_of c.args.self.now ++ x ∷ []) c.in_ok-more.ensures.ok)
    ∙ other_tree old c.args.block c.args.self.now.kids c.args.self.now.roots k lt q
