use Rattle.std.proofs.{Common.{ap, ◌∙◌}, lemmas.Result.MatchResult-weaker}
use Rattle.repo_api.specs.Edits.{with_value}
use Rattle.noderevs.specs.Held.{node_at}
use Rattle.txntree.specs.{Spots.flat, Spots.Spot.Opened, Walks.{at_path, here}}
use Rattle.txntree.proofs.Grafts.{revisions_are_changes}
use Rattle.txntree.proofs.open.OpenNode.set_property.Goals as goal

pub returns-clause-edit : goal.returns-clause-edit
returns-clause-edit c =
    let look = node_at c.args.nodes.now in (
      MatchResult-weaker c.at.result c.at.ensures.tree (λ _ made q. made q
          ∙ ap (λ p. at_path p (here (with_value c.args.name c.args.value)) (flat look (Opened c.args.self.now)) q) c.components.ensures
          ∙ revisions_are_changes (flat look (Opened c.args.self.now)) c.args.path.now (with_value c.args.name c.args.value) q) (λ _ kept. kept),
      c.at.ensures.base,
      c.at.ensures.based (tt {0}),
    )
