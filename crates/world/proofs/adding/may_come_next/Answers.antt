use Rattle.std.proofs.Common.{◌<◌, sym, ap, subst, ◌∙◌}
use Rattle.std.specs.{List.Sorted.IsStrictlySortedBy, Map.keys_of}
use Rattle.svnpath.specs.Paths.{path_cmp}
use Rattle.noderevs.specs.Held.{count}
use Rattle.shared_revisions.proofs.Seen.{held_many}
use Rattle.block_rules.proofs.Ordered.{in_order}
use Rattle.world.proofs.adding.may_come_next.Goals as goal

pub is_next_revision-requires-clause-sorted : goal.is_next_revision-requires-clause-sorted
is_next_revision-requires-clause-sorted c =
    subst (λ es. IsStrictlySortedBy path_cmp (keys_of es)) (sym c.as_slice.ensures) (in_order c.args.changes.now)

pub is_next_revision-requires-clause-room : goal.is_next_revision-requires-clause-room
is_next_revision-requires-clause-room c =
    subst (λ n. n < 262144)
    (c.count.ensures ∙ held_many c.args.held.now ∙ sym c.args.held.now.even ∙ ap count (sym c.nodes.ensures))
    c.if-count-ge-REVISION_LIMIT.false
