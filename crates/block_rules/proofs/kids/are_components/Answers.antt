use Rattle.std.proofs.{Common.{Some, map, take, refl, sym, ap, subst, ◌∙◌}, lemmas.Bool.false≢true, lemmas.List.take_all, lemmas.Option.slice_get-get_or}
use Rattle.std.proofs.lemmas.List.Elements.{All-more, All-same}
use Rattle.std.specs.{Borrow.Bor, Map.Iter.deref}
use Rattle.svnpath.specs.{Components.IsComponent, Paths.Component}
use Rattle.noderevs.specs.declared.node_rev.NodeId.{NodeId}
use Rattle.block_rules.proofs.Listed.{listed_found, of_each}
use Rattle.block_rules.proofs.kids.are_components.Goals as goal

pub loop-entry-preserved : goal.loop-entry-preserved
loop-entry-preserved c =
    let right = λ (e : Bor (Component × NodeId)). IsComponent e.now.0 in
    All-more right c.deref-entry-items.result.now c.loop-entry.entry-index c.entry-item.result c.loop-entry-test.true
    c.loop-entry.invariant
    (subst right c.entry-item.is (c.is_right_name.ensures.0 c.if-not-is_right_name.false))

pub returns : goal.returns
returns c = (
  λ yes name kid is.
      let right = λ (e : Bor (Component × NodeId)). IsComponent e.now.0 in
      let items = c.deref-entry-items.result.now in
      of_each (λ name kid. IsComponent name) c.args.node.now.kids items (ap (map deref) c.deref-entry-items.ensures.value ∙ c.in_ok-entries.ensures.entries)
      (All-same right items (take c.loop-entry.entry-index items) (sym (take_all _ items c.loop-entry-test.false)) c.loop-entry.invariant)
      name kid is,
  λ right. refl,
)

pub returns-then-not-is_right_name : goal.returns-then-not-is_right_name
returns-then-not-is_right_name c = (
  λ yes. absurd (false≢true yes),
  λ right.
      let items = c.deref-entry-items.result.now in
      let at = slice_get-get_or items c.loop-entry.entry-index c.entry-item.result c.loop-entry-test.true
      ∙ ap Some (sym c.entry-item.is) in
      sym c.if-not-is_right_name.true ∙ c.is_right_name.ensures.1
      (right c.entry-item.result.now.0 c.entry-item.result.now.1
      (listed_found c.args.node.now.kids items (ap (map deref) c.deref-entry-items.ensures.value ∙ c.in_ok-entries.ensures.entries)
      c.in_ok-entries.ensures.ordered c.loop-entry.entry-index c.entry-item.result at)),
)
