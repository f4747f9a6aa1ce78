use Rattle.std.proofs.{Common.{◌++◌, ◌∷◌, [], sym, ap, ◌∙◌}, lemmas.Result.MatchResult-weaker}
use Rattle.repo_api.specs.Edits.{grafted}
use Rattle.noderevs.specs.Held.{node_at}
use Rattle.txntree.specs.{Spots.{flat, change_spot}, Spots.Spot.Opened}
use Rattle.txntree.proofs.Grafts.{grafts_are_changes}
use Rattle.txntree.proofs.open.OpenNode.put.Goals as goal

pub returns-clause-tree : goal.returns-clause-tree
returns-clause-tree c =
    let look = node_at c.args.nodes.now in
    let part = flat look (change_spot c.args.change) in
    let name = c.in_ok-clone.field-0 in
    MatchResult-weaker c.at.result c.at.ensures.tree (λ _ made q. made q
    ∙ grafts_are_changes (flat look (Opened c.args.self.now)) c.in-Some.above.now name part q
    ∙ ap (λ p. grafted (flat look (Opened c.args.self.now)) p part q) (ap (λ k. c.in-Some.above.now ++ k ∷ []) c.in_ok-clone.ensures.cases ∙ sym c.in-Some.ensures.cases.0)) (λ _ kept. kept)
