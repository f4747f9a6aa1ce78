use Rattle.std.proofs.Common.{sym, subst}
use Rattle.noderevs.specs.{Beneath.IsShallow, Held.node_at, Views.shared_tree}
use Rattle.shared_revisions.proofs.Deep.{none_past, deeper_is}
use Rattle.shared_revisions.proofs.held.Held.has_deeper.Goals as goal

pub returns-then-names-ge-DEPTH_LIMIT : goal.returns-then-names-ge-DEPTH_LIMIT
returns-then-names-ge-DEPTH_LIMIT c =
    sym
    (none_past c.args.self.now c.args.revision c.args.path.now c.args.names c.requires
    c.if-names-ge-DEPTH_LIMIT.true)

pub returns : goal.returns
returns c =
    let look = node_at c.args.self.now.nodes in
    let at = c.root.ensures in
    deeper_is c.args.self.now c.args.revision c.args.path.now c.args.names c.has_deeper.result
    (λ no. subst (λ o. IsShallow (shared_tree look o) c.args.path.now c.args.names) at
    (c.has_deeper.ensures.no no))
    (λ shallow. c.has_deeper.ensures.yes
    (subst (λ o. IsShallow (shared_tree look o) c.args.path.now c.args.names) (sym at) shallow))
