use Rattle.std.proofs.{Common.{inr, refl, sym, ap, subst, ◌∙◌}, lemmas.Result.MatchResult-weaker}
use Rattle.repo_api.specs.{Edits.grafted, declared.entry.Mark.TheVariants.Open}
use Rattle.txntree.specs.{declared.open.Change.TheViews.roll-OpenNode, Spots.{flat, change_spot, open_tree}, Spots.Spot.Opened, Bases.IsBased}
use Rattle.txntree.specs.{Walks.LacksParent, declared.open.Change.TheVariants.Is}
use Rattle.noderevs.specs.Held.{node_at}
use Rattle.txntree.proofs.{Walking.{is_spot, copy_is}, Bases.{based_again, is_new}}
use Rattle.txntree.proofs.open.OpenNode.copy.Goals as goal

pub returns-clause-edit : goal.returns-clause-edit
returns-clause-edit c =
    let look = node_at c.args.nodes.now in
    let node = c.in_ok-node.node in
    let new = roll-OpenNode (record { own = Open; content = node.content; properties = node.properties; base = node.base; changed = node.changed }) in (
      MatchResult-weaker c.put.result c.put.ensures.tree (λ _ put q. put q
          ∙ ap (λ p. grafted (flat look (Opened c.args.self.now)) p (flat look (change_spot (Is new))) q) c.components.ensures
          ∙ ap (λ part. grafted (flat look (Opened c.args.self.now)) c.args.path.now part q)
          (λ i r. (ap (λ s. flat look s r) (is_spot new) ∙ copy_is look c.args.source c.in_ok-node.node new c.in_ok-node.ensures.ok refl refl refl r) i)) (λ _ kept. kept),
      c.put.ensures.base,
      c.put.ensures.based (subst (IsBased look) (sym (is_spot new)) (based_again look node new refl (λ n. refl) c.in_ok-node.ensures.based))
          (is_new new refl),
    )

pub returns-clause-missing : goal.returns-clause-missing
returns-clause-missing c = λ h.
    inr (subst (λ p. LacksParent p (open_tree c.args.nodes.now c.args.self.now)) c.components.ensures (c.put.ensures.missing h))
