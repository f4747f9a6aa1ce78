use Rattle.std.proofs.{Common.{◌≡◌, take, refl, sym, ap, subst, ◌∙◌}, lemmas.List.take_all, lemmas.List.Elements.{All-contains, All-more, All-same}}
use Rattle.svnpath.specs.Paths.{Component}
use Rattle.noderevs.specs.Nodes.{kid_named}
use Rattle.filed_trees.proofs.Entering.{removed_named}
use Rattle.filed_trees.proofs.entries.remove_kids.Goals as goal

pub returns : goal.returns
returns c = λ name id is.
    let kept = c.loop-name.invariant name id is in
    let names = c.args.names.now in
    let differ = λ (n : Component). n ≡ name → ⊥ in (
      kept.0,
      λ there. All-contains differ names name
          (All-same differ names (take c.loop-name.name-index names) (sym (take_all _ names c.loop-name-test.false)) kept.1)
          there refl,
    )

pub loop-name-preserved : goal.loop-name-preserved
loop-name-preserved c = λ name id is.
    let kept = removed_named c.loop-name.kids c.name-item.result name id (sym (ap (λ m. kid_named m name) c.in_ok-remove.ensures.ok) ∙ is) in
    let before = c.loop-name.invariant name id kept.0 in
    let differ = λ (n : Component). n ≡ name → ⊥ in (
      before.0,
      All-more differ c.args.names.now c.loop-name.name-index c.name-item.result c.loop-name-test.true before.1
          (subst differ c.name-item.is kept.1),
    )
