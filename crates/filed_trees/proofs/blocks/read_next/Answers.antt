use Rattle.std.proofs.Common.{sym, ap, subst, ◌∙◌, ◌++◌, ◌∷◌, [], refl, ◌≡◌, append-nil}
use Rattle.std.specs.{FinMap.entries, Prelude.is_some}
use Rattle.repo_api.specs.StateLaws.{entries_of}
use Rattle.filed_trees.specs.{Changes.changes_by, Comparing.{AreForAll, AreNew}, Readable.{AreReadable, IsReadableFile}, Tables.HasRows}
use Rattle.filed_trees.proofs.{Reading.{tabled_read, for_all}, Judged.no_part, Heights.are_high}
use Rattle.noderevs.specs.Held.{blocks_of}
use Rattle.filed_trees.proofs.blocks.read_next.Goals as goal

pub returns-in-Ok-clause-tabled : goal.returns-in-Ok-clause-tabled
returns-in-Ok-clause-tabled c = λ files bytes blocks more lists all is read.
    let tables = c.args.tables.now in
    let nodes = c.args.nodes.now in
    let rows = c.in_ok-changes.changes.items in
    let pieces = c.args.file.now.pieces.items in
    let said = c.args.file.now.changes.items in
    tabled_read files blocks tables lists all bytes nodes more is pieces said rows c.in-Ok.block c.in-Ok.table c.from_sorted.result
    read (ap changes_by (sym c.as_slice.ensures.value) ∙ c.in_ok-changes.ensures.changes)
    (sym (ap entries c.from_sorted.ensures ∙ entries_of rows c.in_ok-changes.ensures.sorted))
    (subst (λ ps. HasRows ps c.in-Ok.table) c.as_slice-3.ensures.value c.in-Ok.ensures.rows)
    (λ fs for. subst (AreNew fs tables c.in-Ok.block c.in-Ok.table) c.as_slice-3.ensures.value
    (c.in-Ok.ensures.read fs (subst (λ l. AreForAll fs nodes tables l c.as_slice-3.result.now) (sym c.as_slice-2.ensures.value) (subst (AreForAll fs nodes tables rows) (sym c.as_slice-3.ensures.value) for))).1)

pub returns-in-Ok-clause-judges : goal.returns-in-Ok-clause-judges
returns-in-Ok-clause-judges c = λ files bytes blocks more lists all is read.
    let tables = c.args.tables.now in
    let nodes = c.args.nodes.now in
    let rows = c.in_ok-changes.changes.items in
    let pieces = c.args.file.now.pieces.items in
    let said = c.args.file.now.changes.items in
    let changes = ap changes_by (sym c.as_slice.ensures.value) ∙ c.in_ok-changes.ensures.changes in
    record {
      nodes = subst (AreReadable (files ++ bytes ∷ []) tables) c.as_slice-3.ensures.value
          (c.in-Ok.ensures.read (files ++ bytes ∷ []) (subst (λ l. AreForAll (files ++ bytes ∷ []) nodes tables l c.as_slice-3.result.now) (sym c.as_slice-2.ensures.value) (subst (AreForAll (files ++ bytes ∷ []) nodes tables rows) (sym c.as_slice-3.ensures.value)
          (for_all files blocks tables lists all bytes nodes more is pieces said rows read changes)))).0;
      changes_are = ap is_some changes;
    }

pub returns-in-Err-clause-judges : goal.returns-in-Err-clause-judges
returns-in-Err-clause-judges c = λ files bytes blocks more lists all is read.
    let tables = c.args.tables.now in
    let nodes = c.args.nodes.now in
    let rows = c.in_ok-changes.changes.items in
    let pieces = c.args.file.now.pieces.items in
    let said = c.args.file.now.changes.items in
    let changes = ap changes_by (sym c.as_slice.ensures.value) ∙ c.in_ok-changes.ensures.changes in
    no_part c.in-Err.fault (λ (r : IsReadableFile (files ++ bytes ∷ []) tables pieces said).
    subst (AreReadable (files ++ bytes ∷ []) tables) (sym c.as_slice-3.ensures.value) r.nodes)
    (c.in-Err.ensures.read (files ++ bytes ∷ []) (subst (λ l. AreForAll (files ++ bytes ∷ []) nodes tables l c.as_slice-3.result.now) (sym c.as_slice-2.ensures.value) (subst (AreForAll (files ++ bytes ∷ []) nodes tables rows) (sym c.as_slice-3.ensures.value)
    (for_all files blocks tables lists all bytes nodes more is pieces said rows read changes))))

pub returns-in-Ok-clause-high : goal.returns-in-Ok-clause-high
returns-in-Ok-clause-high c = λ files bytes lists all read.
    let nodes = c.args.nodes.now in
    let blocks = blocks_of nodes in
    let whole : blocks ≡ blocks ++ [] = sym (append-nil blocks) in
    let readable = returns-in-Ok-clause-judges c files bytes blocks [] lists all whole read in
    are_high files blocks c.args.tables.now lists all bytes c.args.file.now.pieces.items c.args.file.now.changes.items read
    c.in-Ok.block c.in-Ok.table c.from_sorted.result readable.nodes
    (returns-in-Ok-clause-tabled c files bytes blocks [] lists all whole read)
    nodes refl c.in-Ok.ensures.heights
