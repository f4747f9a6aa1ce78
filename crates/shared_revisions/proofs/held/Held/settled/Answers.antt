use Rattle.std.proofs.Common.{subst}
use Rattle.noderevs.specs.{Held.node_at, Views.shared_tree}
use Rattle.shared_revisions.specs.Settling.{IsSettledFrom}
use Rattle.shared_revisions.proofs.Marks.{quiet_held}
use Rattle.shared_revisions.proofs.held.Held.settled.Goals as goal

pub returns-in-Some-clause-quiet : goal.returns-in-Some-clause-quiet
returns-in-Some-clause-quiet c =
    let look = node_at c.args.self.now.nodes in
    let newest = c.in-Some.newest in
    quiet_held c.args.self.now c.args.revision c.args.path.now newest c.requires
    (subst (λ o. IsSettledFrom (shared_tree look o) c.args.path.now newest) c.root.ensures
    (subst (λ p. IsSettledFrom (shared_tree look c.root.result) p newest)
    c.components.ensures c.in-Some.ensures))
