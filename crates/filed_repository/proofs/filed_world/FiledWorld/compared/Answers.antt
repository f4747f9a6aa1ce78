use Rattle.std.proofs.Common.{sym, ap, subst, ◌∙◌, ◌≡◌, arith, length, rules, [], ◌∷◌, Some, Err}
use Rattle.repo_api.specs.Histories.{history_of}
use Rattle.noderevs.specs.Held.{blocks_of}
use Rattle.repostore.specs.Reading.{with_one_more}
use Rattle.world.specs.Whole.{world_content}
use Rattle.filed_repository.specs.{Reading.{AreRead, so_far}, Histories.HasHistory}
use Rattle.filed_repository.proofs.{Taken.{next_tabled, next_read, next_history}, First.{block, change, comes_first, first_history, history_first, is_at}}
use Rattle.filed_repository.proofs.Next.{nothing}
use Rattle.filed_trees.specs.{Readable.Judges, StandsFor.revision_bytes, Tables.AreTabled, Values.IsFiledNext}
use Rattle.std.specs.{FinMap.entries, Prelude.slice_get, Result.result_ok}
use Rattle.fsfs_nodes.specs.Properties.{properties_of}
use Rattle.shared_revisions.proofs.Seen.{held_changes}
use Rattle.filed_trees.proofs.{Judged.no_part, Seen.none_tabled}
use Rattle.filed_repository.proofs.filed_world.FiledWorld.compared.Goals as goal

pub returns-in_ok-with_table-in-Ok-clause-read : goal.returns-in_ok-with_table-in-Ok-clause-read
returns-in_ok-with_table-in-Ok-clause-read c = λ next new files are.
    let old = c.args.self.now in
    let world = c.args.world.now in
    let table = c.in_ok-table.table in
    let no_tables : old.tables ≡ [] = nothing old.tables c.requires in
    let before : AreTabled [] [] old.tables [] = subst (λ ts. AreTabled [] [] ts []) (sym no_tables) none_tabled in
    let h = world.held.value in
    let blocks : blocks_of c.nodes.result.now ≡ block h new c.args.revision.now ∷ [] = ap blocks_of c.nodes.ensures ∙ new.opening.alone in
    let changes : entries (change h new c.args.revision.now) ≡ c.changes.result.now = sym (c.changes.ensures
    ∙ ap (history_of (world_content world)) (c.len-number.ensures.length ∙ c.requires)
    ∙ held_changes h 0 (change h new c.args.revision.now) (is_at h new c.args.revision.now)) in
    let said = subst (λ ts. IsFiledNext (c.args.revision.now ∷ []) ts c.args.revision.now (block h new c.args.revision.now ∷ [])
    (change h new c.args.revision.now ∷ [])) no_tables
    (c.in_ok-table.ensures.judges [] [] (block h new c.args.revision.now) [] (change h new c.args.revision.now) before blocks changes) in
    let none : length (revision_bytes files) ≡ 0 = are.tabled.all ∙ sym are.tabled.tabled ∙ c.requires in
    let file = c.args.revision.now in
    let properties = c.args.properties.now in
    let tabled = next_tabled old.world.held.value old.world.locks.value old.tables old.current files
    are world.held.value next.0 world.locks.value c.changes.result.now file table
    (c.changes.ensures ∙ ap (history_of (world_content world)) c.len-number.ensures.length)
    (λ fs blocks block lists list before longer same.
    c.in_ok-table.ensures.tabled fs blocks block lists list before
    (ap blocks_of c.nodes.ensures ∙ longer) same) in
    subst (λ ts. AreRead world.held.value world.locks.value ts old.current
    (with_one_more files (file, properties)))
    (sym c.in_ok-with_table-in-Ok.ensures)
    (next_read old.world.held.value old.world.locks.value old.tables old.current files are
    world.held.value next.0 world.locks.value file properties table next.1 tabled
    (next_history old.world.held.value old.world.locks.value old.tables old.current files are world.held.value next.0 file table tabled
    (λ pos. absurd (omega (arith, pos, none)))
    (λ e. comes_first h new file said (so_far old.tables (blocks_of old.world.held.value.nodes)) next.0.block
    (so_far old.tables old.world.held.value.changes) next.0.change
    (ap (λ ts. so_far ts (blocks_of old.world.held.value.nodes)) no_tables) (ap (λ ts. so_far ts old.world.held.value.changes) no_tables)
    next.0.blocks next.0.changes)
    (omega (arith, none)))
    c.in-Ok.ensures)

pub returns-in_err-table-clause-judges : goal.returns-in_err-table-clause-judges
returns-in_err-table-clause-judges c = λ list new at.
    let old = c.args.self.now in
    let world = c.args.world.now in
    let h = world.held.value in
    let file = c.args.revision.now in
    let no_tables : old.tables ≡ [] = nothing old.tables c.requires in
    let before : AreTabled [] [] old.tables [] = subst (λ ts. AreTabled [] [] ts []) (sym no_tables) none_tabled in
    let blocks : blocks_of c.nodes.result.now ≡ block h new file ∷ [] = ap blocks_of c.nodes.ensures ∙ new.opening.alone in
    let changes : entries (change h new file) ≡ c.changes.result.now = sym (c.changes.ensures
    ∙ ap (history_of (world_content world)) (c.len-number.ensures.length ∙ c.requires) ∙ held_changes h 0 (change h new file) (is_at h new file)) in
    let right = HasHistory (file ∷ []) × (result_ok (properties_of c.args.properties.now) ≡ Some list) in
    let fault = c.in_err-table.field-0.0 in
    let result : c.from_residual.result ≡ Err fault = search rules in
    subst (λ r. Judges r right) (sym result)
    (no_part fault (λ (p : right). subst (λ ts. IsFiledNext (file ∷ []) ts file (block h new file ∷ []) (change h new file ∷ [])) (sym no_tables)
    (history_first h new file p.0))
    (c.in_err-table.ensures.judges [] [] (block h new file) [] (change h new file) before blocks changes))

pub returns-in_ok-with_table-in-Ok-clause-judges : goal.returns-in_ok-with_table-in-Ok-clause-judges
returns-in_ok-with_table-in-Ok-clause-judges c = λ list new at.
    let old = c.args.self.now in
    let world = c.args.world.now in
    let h = world.held.value in
    let file = c.args.revision.now in
    let no_tables : old.tables ≡ [] = nothing old.tables c.requires in
    let before : AreTabled [] [] old.tables [] = subst (λ ts. AreTabled [] [] ts []) (sym no_tables) none_tabled in
    let blocks : blocks_of c.nodes.result.now ≡ block h new file ∷ [] = ap blocks_of c.nodes.ensures ∙ new.opening.alone in
    let changes : entries (change h new file) ≡ c.changes.result.now = sym (c.changes.ensures
    ∙ ap (history_of (world_content world)) (c.len-number.ensures.length ∙ c.requires) ∙ held_changes h 0 (change h new file) (is_at h new file)) in
    let said = subst (λ ts. IsFiledNext (file ∷ []) ts file (block h new file ∷ []) (change h new file ∷ [])) no_tables
    (c.in_ok-table.ensures.judges [] [] (block h new file) [] (change h new file) before blocks changes) in
    (first_history h new file said, c.in-Ok.ensures list (ap (slice_get h.properties) c.requires ∙ at))

pub returns-in-Err-clause-judges : goal.returns-in-Err-clause-judges
returns-in-Err-clause-judges c = λ list new at.
    let h = c.args.world.now.held.value in
    let right = HasHistory (c.args.revision.now ∷ []) × (result_ok (properties_of c.args.properties.now) ≡ Some list) in
    no_part c.in-Err.fault (λ (p : right). p.1) (c.in-Err.ensures list (ap (slice_get h.properties) c.requires ∙ at))
