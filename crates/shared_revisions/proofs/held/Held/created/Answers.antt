use Rattle.std.proofs.Common.{sym, ap, ◌∙◌}
use Rattle.repo_api.specs.Kinds.{created_of}
use Rattle.noderevs.specs.{Held.node_at, Views.shared_tree}
use Rattle.shared_revisions.proofs.Seen.{held_seen}
use Rattle.shared_revisions.proofs.held.Held.created.Goals as goal

pub returns : goal.returns
returns c =
    c.created.ensures
    ∙ ap created_of
    (ap (λ o. shared_tree (node_at c.args.self.now.nodes) o c.args.path.now) c.root.ensures
    ∙ sym (held_seen c.args.self.now c.args.revision c.args.path.now))
