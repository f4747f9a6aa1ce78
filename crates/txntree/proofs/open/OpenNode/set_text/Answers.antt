use Rattle.std.proofs.{Common.{ap, ◌∙◌}, lemmas.Result.MatchResult-weaker}
use Rattle.std.specs.Arc.{arc_value}
use Rattle.repo_api.specs.declared.entry.Content.TheVariants.{File}
use Rattle.noderevs.specs.Held.{node_at}
use Rattle.txntree.specs.{Spots.flat, Spots.Spot.Opened, Walks.{at_path, here, with_content}}
use Rattle.txntree.proofs.Grafts.{revisions_are_changes}
use Rattle.txntree.proofs.open.OpenNode.set_text.Goals as goal

pub returns-clause-edit : goal.returns-clause-edit
returns-clause-edit c =
    let look = node_at c.args.nodes.now in (
      MatchResult-weaker c.at.result c.at.ensures.tree (λ _ made q. made q
          ∙ ap (λ p. at_path p (here (with_content (arc_value c.in_ok-content.content))) (flat look (Opened c.args.self.now)) q) c.components.ensures
          ∙ ap (λ x. at_path c.args.path.now (here (with_content x)) (flat look (Opened c.args.self.now)) q) c.in_ok-content.ensures
          ∙ revisions_are_changes (flat look (Opened c.args.self.now)) c.args.path.now (with_content (File c.args.text)) q) (λ _ kept. kept),
      c.at.ensures.base,
      c.at.ensures.based (tt {0}),
    )
