use Rattle.std.proofs.{Common.{sym, ap, subst, ◌∙◌}, lemmas.Result.MatchResult-weaker}
use Rattle.repo_api.specs.{Edits.edited, RightEdits.IsRightEdit}
use Rattle.txntree.specs.Whole.{txn_tree}
use Rattle.shared_revisions.proofs.Seen.{trees_seen}
use Rattle.shared_revisions.proofs.held.Held.edit.Goals as goal

pub edit-requires : goal.edit-requires
edit-requires c =
    subst (λ trees. IsRightEdit trees
    (txn_tree c.args.self.now.nodes c.args.tree.now) c.args.op.now)
    (trees_seen c.args.self.now) c.requires

pub returns : goal.returns
returns c = (
  MatchResult-weaker c.edit.result c.edit.ensures.tree
      (λ _ made q. made q
      ∙ ap (λ trees. edited trees (txn_tree c.args.self.now.nodes c.args.tree.now) c.args.op.now q)
      (sym (trees_seen c.args.self.now)))
      (λ _ kept. kept),
  c.edit.ensures.sound,
)
