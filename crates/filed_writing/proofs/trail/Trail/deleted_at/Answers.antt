use Rattle.std.proofs.Common.{ap, sym, ◌∙◌}
use Rattle.std.specs.Prelude.{option_and_then}
use Rattle.noderevs.specs.{Held.node_at, Nodes.kid_at}
use Rattle.filed_writing.specs.Origins.{deleted_at, predecessor_of}
use Rattle.filed_writing.proofs.Pieces.{name_last}
use Rattle.filed_writing.proofs.trail.Trail.deleted_at.Goals as goal

pub returns-clause-found : goal.returns-clause-found
returns-clause-found c =
    let nodes = c.args.revision.nodes.now in
    let changes = c.args.revision.changes.now in
    let n = c.args.revision.number in
    let name = c.in-Some.name.now in
    let above = c.in-Some.above.now in
    c.kid.ensures ∙ ap (λ at. kid_at (node_at nodes) at name) c.in_ok-directory.ensures.found
    ∙ sym (ap (λ p. deleted_at nodes changes n p) c.in-Some.ensures.cases.0
    ∙ ap (λ o. option_and_then (λ p. kid_at (node_at nodes) (predecessor_of nodes changes n p.0) p.1) o) (name_last above name))
