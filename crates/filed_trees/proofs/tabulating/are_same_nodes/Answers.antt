use Rattle.std.proofs.{Common.{rules, ◌≡◌, length, None, Some, refl, sym, ap, subst, ◌∙◌}, lemmas.Bool.false≢true, lemmas.Option.slice_get-get_or}
use Rattle.std.specs.Prelude.{slice_get}
use Rattle.noderevs.specs.{Held.node_at, declared.node_rev.NodeId.NodeId}
use Rattle.filed_trees.specs.Comparing.{AreSame}
use Rattle.filed_trees.proofs.Reading.{all_same, end_there, none_there, one_same}
use Rattle.filed_trees.proofs.tabulating.are_same_nodes.Goals as goal

pub returns-in_default : goal.returns-in_default
returns-in_default c = (
  λ e. absurd (false≢true e),
  λ all.
      let id : NodeId = record { rev = c.args.rev; place = c.loop-place.place } in
      let none : node_at c.args.nodes.now id ≡ None = search rules in
      absurd (none_there c.args.block.now c.loop-place.place (node_at c.args.nodes.now id) c.loop-place-test.true none (all id refl)),
)

pub returns-then-not-branch : goal.returns-then-not-branch
returns-then-not-branch c = (
  λ e. absurd (false≢true e),
  λ all.
      let id : NodeId = record { rev = c.args.rev; place = c.loop-place.place } in
      let node = c.index-block-place.result in
      let at : slice_get c.args.block.now c.loop-place.place ≡ Some node =
      slice_get-get_or c.args.block.now c.loop-place.place node c.loop-place-test.true ∙ ap Some (sym c.index-block-place.is) in
      let there : node_at c.args.nodes.now id ≡ Some c.in-Some.node.now = search rules in
      let same = subst (λ o. AreSame o (Some c.in-Some.node.now)) at (subst (AreSame (slice_get c.args.block.now c.loop-place.place)) there (all id refl)) in
      absurd (false≢true (sym c.if-not-branch.true ∙ c.in_ok-is_same_node.ensures.1 same)),
)

pub loop-place-preserved : goal.loop-place-preserved
loop-place-preserved c =
    let id : NodeId = record { rev = c.args.rev; place = c.loop-place.place } in
    let node = c.index-block-place.result in
    let at : slice_get c.args.block.now c.loop-place.place ≡ Some node =
    slice_get-get_or c.args.block.now c.loop-place.place node c.loop-place-test.true ∙ ap Some (sym c.index-block-place.is) in
    let there : node_at c.args.nodes.now id ≡ Some c.in-Some.node.now = search rules in
    one_same c.args.block.now c.args.nodes.now c.args.rev c.loop-place.place node c.in-Some.node.now at there
    (c.in_ok-is_same_node.ensures.0 c.if-not-branch.false) c.loop-place.invariant

pub returns : goal.returns
returns c =
    let end : NodeId = record { rev = c.args.rev; place = length c.args.block.now } in (
      λ yes.
          let none : node_at c.args.nodes.now end ≡ None = search rules in
          all_same c.args.block.now c.args.nodes.now c.args.rev c.loop-place.place c.loop-place-test.false none c.loop-place.invariant,
      λ all.
          let none : node_at c.args.nodes.now end ≡ None = end_there c.args.block.now (node_at c.args.nodes.now end) (all end refl) in
          search rules,
    )
