use Rattle.std.proofs.Common.{◌<◌, sym, ap, subst, ◌∙◌}
use Rattle.std.specs.{List.Sorted.IsStrictlySortedBy, Map.keys_of, Prelude.{Decides, slice_get}}
use Rattle.svnpath.specs.Paths.{path_cmp}
use Rattle.noderevs.specs.Held.{blocks_of, count}
use Rattle.block_rules.specs.Rules.{IsNextRevision, past_of}
use Rattle.filed_repository.proofs.{Going.{ok_then, right_next}, InOrder.changes_in_order}
use Rattle.filed_repository.proofs.filed_world.FiledWorld.is_right_next.Goals as goal

pub is_next_revision-requires-clause-sorted : goal.is_next_revision-requires-clause-sorted
is_next_revision-requires-clause-sorted c =
    subst (λ es. IsStrictlySortedBy path_cmp (keys_of es)) (sym c.changes.ensures) (changes_in_order _)

pub is_next_revision-requires-clause-room : goal.is_next_revision-requires-clause-room
is_next_revision-requires-clause-room c = subst (λ n. n < 262144) c.count.ensures c.if-count-ge262144.false

pub returns : goal.returns
returns c =
    let f = c.args.self.now in
    let old = f.world.held.value in
    let world = c.args.world.now in
    let block = c.in-Some.block.now in
    let changes = c.changes.result.now in
    ok_then (λ b. Decides b (IsNextRevision (past_of c.nodes-nodes.result.now) block changes)) _
    (λ b decides right more. right_next old world.held.value world.locks.value more c.youngest-number.result block changes
    c.youngest-number.ensures (c.in-Some.ensures ∙ ap (λ ns. slice_get (blocks_of ns) c.youngest-number.result) c.nodes.ensures) c.changes.ensures
    (subst (λ n. n < 262144) (c.count.ensures ∙ ap count c.nodes-nodes.ensures) c.if-count-ge262144.false)
    (subst (λ ns. IsNextRevision (past_of ns) block changes) c.nodes-nodes.ensures (decides.0 right)))
    c.is_next_revision.result c.is_next_revision.ensures
