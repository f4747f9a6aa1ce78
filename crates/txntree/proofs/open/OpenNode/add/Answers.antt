use Rattle.std.proofs.{Common.{sym, ap, subst, ◌∙◌}, lemmas.Result.MatchResult-weaker}
use Rattle.repo_api.specs.Edits.{grafted}
use Rattle.noderevs.specs.Held.{node_at}
use Rattle.txntree.specs.{Spots.{flat, change_spot}, Spots.Spot.Opened, Bases.IsBased, declared.open.Change.TheVariants.Is}
use Rattle.txntree.proofs.{Walking.is_spot, Bases.is_new}
use Rattle.txntree.proofs.open.OpenNode.add.Goals as goal

pub returns-clause-edit : goal.returns-clause-edit
returns-clause-edit c =
    let look = node_at c.args.nodes.now in (
      MatchResult-weaker c.put.result c.put.ensures.tree (λ _ put q. put q
          ∙ ap (λ p. grafted (flat look (Opened c.args.self.now)) p (flat look (change_spot (Is c.in_ok-node.node))) q) c.components.ensures
          ∙ ap (λ part. grafted (flat look (Opened c.args.self.now)) c.args.path.now part q) (λ i r. (ap (λ s. flat look s r) (is_spot c.in_ok-node.node) ∙ c.in_ok-node.ensures.ok look r) i)) (λ _ kept. kept),
      c.put.ensures.base,
      c.put.ensures.based (subst (IsBased look) (sym (is_spot c.in_ok-node.node)) (c.in_ok-node.ensures.based look))
          (is_new c.in_ok-node.node c.in_ok-node.ensures.own),
    )
