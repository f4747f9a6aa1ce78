use Rattle.std.proofs.{Common.{◌≡◌, ◌<◌, ℕ, Some, length, get_or, slice_get, ⊎_elim, refl, sym, ap, subst, arith, ◌∙◌}, lemmas.Bool.{cases_lt, false≢true}}
use Rattle.std.proofs.lemmas.Option.{get_or_from_slice_get, slice_get-get_or, slice_get_within}
use Rattle.noderevs.specs.declared.node_rev.NodeRev.{NodeRev}
use Rattle.block_rules.specs.Rules.{IsRightNode, past_of}
use Rattle.block_rules.proofs.next_block.NextBlock.are_right_on.Goals as goal

pub loop-place-preserved : goal.loop-place-preserved
loop-place-preserved c = (
  c.is_right_node.ensures.way,
  λ k node lt at.
      let right = λ (n : ℕ) (x : NodeRev). IsRightNode (past_of c.args.self.nodes.now) c.args.self.block.now c.args.self.changes.now n x in
      ⊎_elim
      (λ before. c.loop-place.invariant.1 k node before at)
      (λ past.
      let same : k ≡ c.loop-place.place = omega (arith, past, lt) in
      let here : ◌≡◌ {A = NodeRev} c.index-nodes-place.result node =
      c.index-nodes-place.is
      ∙ ap (λ xs. get_or xs c.loop-place.place c.index-nodes-place.result) c.as_slice-nodes.ensures.value
      ∙ get_or_from_slice_get c.args.self.block.now.nodes.items c.loop-place.place node c.index-nodes-place.result
      (ap (slice_get c.args.self.block.now.nodes.items) (sym same) ∙ at) in
      subst (λ n. right n node) (sym same)
      (subst (right c.loop-place.place) here (c.in_ok-is_right_node.ensures.right.0 c.if-not-branch.false)))
      (cases_lt k c.loop-place.place),
)

pub returns : goal.returns
returns c = (
  λ yes k node at.
      let within = slice_get_within c.args.self.block.now.nodes.items k node at in
      let long = ap length c.as_slice-nodes.ensures.value in
      let over = c.loop-place-test.false in
      c.loop-place.invariant.1 k node (omega (arith, within, long, over)) at,
  λ right. refl,
)

pub returns-then-not-branch : goal.returns-then-not-branch
returns-then-not-branch c = (
  λ yes. absurd (false≢true yes),
  λ right. sym c.if-not-branch.true ∙ c.in_ok-is_right_node.ensures.right.1 (right c.loop-place.place c.index-nodes-place.result
      (slice_get-get_or c.args.self.block.now.nodes.items c.loop-place.place c.index-nodes-place.result
      (subst (λ n. c.loop-place.place < n) (ap length c.as_slice-nodes.ensures.value) c.loop-place-test.true)
      ∙ ap Some (sym (c.index-nodes-place.is
      ∙ ap (λ xs. get_or xs c.loop-place.place c.index-nodes-place.result) c.as_slice-nodes.ensures.value)))),
)
