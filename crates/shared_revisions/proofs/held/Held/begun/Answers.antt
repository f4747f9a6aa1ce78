use Rattle.std.proofs.Common.{◌≡◌, Some, sym, ap, subst, ◌∙◌}
use Rattle.repo_api.specs.{Edits.begun, States.youngest}
use Rattle.noderevs.specs.{Held.{node_at, root_at}, Views.shared_tree}
use Rattle.txntree.specs.Whole.{IsSound}
use Rattle.shared_revisions.specs.Contents.{held_state}
use Rattle.shared_revisions.proofs.Seen.{root_there}
use Rattle.shared_revisions.proofs.held.Held.begun.Goals as goal

pub at-requires : goal.at-requires
at-requires c =
    let nodes = c.args.self.now.nodes in
    let is : root_at nodes (youngest (held_state c.args.self.now)) ≡ Some c.in-Some.root =
    ap (root_at nodes) (sym c.youngest.ensures.is) ∙ sym c.root.ensures ∙ c.in-Some.is in
    nodes.roots (youngest (held_state c.args.self.now)) c.in-Some.root is

pub returns : goal.returns
returns c =
    let nodes = c.args.self.now.nodes in
    let is : root_at nodes (youngest (held_state c.args.self.now)) ≡ Some c.in-Some.root =
    ap (root_at nodes) (sym c.youngest.ensures.is) ∙ sym c.root.ensures ∙ c.in-Some.is in (
      λ q. c.in_ok-tree.ensures.tree q
          ∙ ap (λ o. begun (shared_tree (node_at nodes) o) q) (sym is),
      subst (λ o. IsSound (node_at nodes) o c.in_ok-tree.tree) (sym is) c.in_ok-tree.ensures.sound,
    )

pub unreachable-requires : goal.unreachable-requires
unreachable-requires c =
    root_there c.args.self.now c.youngest.result c.youngest.ensures.within
    (sym c.root.ensures ∙ c.in_default.is)
