use Rattle.std.proofs.Common.{◌≡◌, ◌<◌, [], ◌∷◌, length, ap, sym, subst, arith, ◌∙◌}
use Rattle.noderevs.specs.Held.{blocks_of, trees_of}
use Rattle.shared_revisions.proofs.{Again.same_state, Opened.{opening_placed, opening_shown, opening_is}, Rising.rises_alone}
use Rattle.shared_revisions.proofs.held.Held.opened.Goals as goal

pub invariant_of-result : goal.invariant_of-result
invariant_of-result c =
    let nodes = c.in_ok-nodes.nodes in
    let changes = c.in_ok-changes.changes in
    let one : length changes ≡ 1 = ap length c.in_ok-changes.ensures in
    record {
      even = c.in_ok-nodes.ensures.count ∙ sym one;
      all = ap length c.in_ok-properties.ensures ∙ sym one;
      begun = subst (λ n. 0 < n) (sym one) (omega arith);
      placed = opening_placed (blocks_of nodes) c.in_ok-nodes.ensures.blocks;
      shown =
          opening_shown (trees_of nodes) changes
          (c.in_ok-changes.ensures ∙ ap (λ l. l ∷ []) c.new.ensures) c.in_ok-nodes.ensures.tree;
      rising = rises_alone c.in_ok-properties.properties (ap length c.in_ok-properties.ensures);
    }

pub returns : goal.returns
returns c =
    same_state _ _ _ _ _
    (opening_is (trees_of c.in_ok-nodes.nodes) c.in_ok-changes.changes
    (c.in_ok-changes.ensures ∙ ap (λ l. l ∷ []) c.new.ensures) c.in_ok-nodes.ensures.tree _)
    (c.in_ok-properties.ensures ∙ ap (λ l. l ∷ []) c.in_ok-list.ensures)
