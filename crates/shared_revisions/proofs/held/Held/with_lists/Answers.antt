use Rattle.std.proofs.Common.{◌≡◌, ◌<◌, length, refl, ap, sym, subst, ◌∙◌}
use Rattle.noderevs.specs.{Held.blocks_of, Nodes.{node_in, root_in}}
use Rattle.shared_revisions.specs.Placed.{ArePlaced}
use Rattle.shared_revisions.proofs.Again.{shown_again, revisions_again, same_state}
use Rattle.shared_revisions.proofs.held.Held.with_lists.Goals as goal

pub invariant_of-result : goal.invariant_of-result
invariant_of-result c =
    let old = c.args.self.now in
    let blocks = c.in_ok-nodes.ensures in
    let changes = c.in_ok-changes.ensures in
    let many : length old.changes ≡ length c.in_ok-changes.changes = ap length (sym changes) in
    record {
      even = ap length blocks ∙ old.even ∙ many;
      all = c.requires.many ∙ old.all ∙ many;
      begun = subst (λ n. 0 < n) many old.begun;
      placed = subst (λ bs. ArePlaced (node_in bs) (root_in bs)) (sym blocks) old.placed;
      shown =
          shown_again (blocks_of old.nodes) (blocks_of c.in_ok-nodes.nodes)
          old.changes c.in_ok-changes.changes blocks changes old.shown;
      rising = c.requires.rising;
    }

pub returns : goal.returns
returns c = (
  record { blocks = c.in_ok-nodes.ensures; changes = c.in_ok-changes.ensures },
  same_state _ _ _ _ _
      (revisions_again (blocks_of c.args.self.now.nodes) (blocks_of c.in_ok-nodes.nodes)
      c.args.self.now.changes c.in_ok-changes.changes c.in_ok-nodes.ensures c.in_ok-changes.ensures
      c.args.self.now.shown _)
      refl,
)
