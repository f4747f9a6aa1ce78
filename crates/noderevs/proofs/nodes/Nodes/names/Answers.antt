use Rattle.std.proofs.Common.{option_and_then, ap, subst, ◌∙◌}
use Rattle.std.specs.{Cmp.Lexicographic.slice_cmp, List.Sorted.IsStrictlySortedBy, Ordering.nat_cmp}
use Rattle.noderevs.specs.{Beneath.kid_names, Held.node_at, Views.find_id}
use Rattle.noderevs.proofs.Names.{none_sorted}
use Rattle.noderevs.proofs.nodes.Nodes.names.Goals as goal

pub returns-in-None-clause-ordered : goal.returns-in-None-clause-ordered
returns-in-None-clause-ordered c =
    let look = node_at c.args.self.now in
    subst (λ o. IsStrictlySortedBy (slice_cmp nat_cmp) (kid_names o))
    (c.in-None.ensures ∙ ap (option_and_then look) (c.find_in.ensures ∙ ap (λ p. find_id look p c.args.root) c.components.ensures)) none_sorted
