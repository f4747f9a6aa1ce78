use Rattle.std.proofs.Common.{refl, sym, ap, subst, ◌∙◌}
use Rattle.std.specs.{List.Sorted.IsStrictlySortedBy, Map.keys_of}
use Rattle.svnpath.specs.Paths.{path_cmp}
use Rattle.repo_api.specs.Histories.{history_of}
use Rattle.world.specs.Whole.{world_content}
use Rattle.filed_repository.specs.Reading.{GoesOn}
use Rattle.filed_repository.proofs.{Going.{goes_on, ok_then}, InOrder.changes_in_order, Newest.newest_changes}
use Rattle.filed_repository.proofs.filed_world.FiledWorld.written.Goals as goal

pub write_revision-requires : goal.write_revision-requires
write_revision-requires c =
    subst (λ es. IsStrictlySortedBy path_cmp (keys_of es)) (sym c.changes.ensures) (changes_in_order _)

pub returns : goal.returns
returns c =
    let f = c.args.self.now in
    let old = f.world.held.value in
    let world = c.args.world.now in
    let more = c.requires.more in
    let listed = newest_changes old world.held.value world.locks.value more c.changes.result.now
    (c.changes.ensures ∙ ap (history_of (world_content world)) c.youngest.ensures) in
    ok_then _ (λ made. GoesOn f world made.file.items made.table)
    (λ made written files is. goes_on old world.held.value more (c.in_ok-is_right_next.ensures c.if-not-branch.false more) _ _ made written refl c.nodes.ensures listed c.next_ids.ensures.fit files is)
    c.write_revision.result c.write_revision.ensures
