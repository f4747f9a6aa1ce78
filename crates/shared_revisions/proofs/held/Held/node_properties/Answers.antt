use Rattle.std.proofs.Common.{sym, ap, ◌∙◌}
use Rattle.repo_api.specs.Kinds.{node_properties}
use Rattle.noderevs.specs.{Held.node_at, Views.shared_tree}
use Rattle.shared_revisions.proofs.Seen.{held_seen}
use Rattle.shared_revisions.proofs.held.Held.node_properties.Goals as goal

pub returns : goal.returns
returns c =
    c.properties.ensures
    ∙ ap node_properties
    (ap (λ o. shared_tree (node_at c.args.self.now.nodes) o c.args.path.now) c.root.ensures
    ∙ sym (held_seen c.args.self.now c.args.revision c.args.path.now))
