use Rattle.std.proofs.{Common.{◌≡◌, ◌++◌, ◌∷◌, [], length, Ok, sym, ap, subst, ◌∙◌, rules, Err, List}, lemmas.Bool.false≢true}
use Rattle.std.specs.FinMap.{same_entries_map}
use Rattle.fsfs.specs.{Pieces.revision_of, declared.piece.FilePiece.FilePiece}
use Rattle.filed_trees.specs.{Tables.AreTabled, Comparing.IsLast, Readable.{IsReadableFile, Judges}, Values.IsFiledNext}
use Rattle.filed_trees.proofs.{Reading.tabled_same, Judged.no_part, OneRepository.{last_changes_are, last_nodes, last_root_is}, Read.same_Ok}
use Rattle.noderevs.specs.Held.{root_at}
use Rattle.fsfs_text.specs.declared.fault.FileFault.{FileFault}
use Rattle.fsfs_nodes.specs.declared.change.FileChange.{FileChange}
use Rattle.filed_trees.proofs.tabulating.tabulated.Goals as goal

pub returns-in-Ok-true-clause-tabled : goal.returns-in-Ok-true-clause-tabled
returns-in-Ok-true-clause-tabled c = λ files blocks block lists list all is same.
    let tables = c.args.tables.now in
    let nodes = c.args.nodes.now in
    let read = c.in_ok-read.read in
    let bytes = c.args.file.now in
    let more = files ++ bytes ∷ [] in
    let placed = tables ++ read.table ∷ [] in
    let last = c.in-Ok-true.ensures.0 c.in-Ok-true.field-0-test in
    let count : c.len-revision.result ≡ length tables = c.len-revision.ensures.length in
    let said : revision_of (length tables) bytes ≡ Ok (c.in_ok-file.file.pieces.items, c.in_ok-file.file.changes.items) =
    ap (λ n. revision_of n bytes) (sym count) ∙ c.in_ok-file.ensures in
    let behind = c.in_ok-read.ensures.tabled files bytes blocks (block ∷ []) lists all is said in
    tabled_same more blocks placed lists read.block block list nodes is c.len-revision.result (sym all.tabled ∙ sym count)
    last.nodes_are last.root_is
    (subst (λ l. AreTabled more (blocks ++ read.block ∷ []) placed (lists ++ l ∷ []))
    (same_entries_map read.changes list (last.changes_are ∙ sym same)) behind)

pub returns-in_err-read-clause-judges : goal.returns-in_err-read-clause-judges
returns-in_err-read-clause-judges c = λ files blocks block lists list all is same.
    let bytes = c.args.file.now in
    let pieces = c.in_ok-file.file.pieces.items in
    let changes = c.in_ok-file.file.changes.items in
    let said : revision_of (length c.args.tables.now) bytes ≡ Ok (pieces, changes) =
    ap (λ n. revision_of n bytes) (sym c.len-revision.ensures.length) ∙ c.in_ok-file.ensures in
    let tables = c.args.tables.now in
    let right = IsFiledNext (files ++ bytes ∷ []) tables bytes (blocks ++ block ∷ []) (lists ++ list ∷ []) in
    let fault = c.in_err-read.field-0.0 in
    let result : c.from_residual-in_err-read.result ≡ Err fault = search rules in
    subst (λ r. Judges r right) (sym result)
    (no_part fault (λ (p : right). subst (λ (x : List FilePiece × List FileChange). IsReadableFile (files ++ bytes ∷ []) tables x.0 x.1)
    (same_Ok {E = FileFault} (p.pieces, p.said) (pieces, changes) (sym p.says ∙ said)) p.readable)
    (c.in_err-read.ensures.judges files bytes blocks (block ∷ []) lists all is said))

pub returns-in-Ok-true-clause-judges : goal.returns-in-Ok-true-clause-judges
returns-in-Ok-true-clause-judges c = λ files blocks block lists list all is same.
    let bytes = c.args.file.now in
    let pieces = c.in_ok-file.file.pieces.items in
    let changes = c.in_ok-file.file.changes.items in
    let said : revision_of (length c.args.tables.now) bytes ≡ Ok (pieces, changes) =
    ap (λ n. revision_of n bytes) (sym c.len-revision.ensures.length) ∙ c.in_ok-file.ensures in
    record {
      pieces = pieces;
      said = changes;
      says = said;
      readable = c.in_ok-read.ensures.judges files bytes blocks (block ∷ []) lists all is said;
      table = c.in_ok-read.read.table;
      tabled = returns-in-Ok-true-clause-tabled c files blocks block lists list all is same;
    }

pub returns-in-Ok-false-clause-judges : goal.returns-in-Ok-false-clause-judges
returns-in-Ok-false-clause-judges c = λ files blocks block lists list all is same p.
    let bytes = c.args.file.now in
    let pieces = c.in_ok-file.file.pieces.items in
    let changes = c.in_ok-file.file.changes.items in
    let said : revision_of (length c.args.tables.now) bytes ≡ Ok (pieces, changes) =
    ap (λ n. revision_of n bytes) (sym c.len-revision.ensures.length) ∙ c.in_ok-file.ensures in
    let nodes = c.args.nodes.now in
    let read = c.in_ok-read.read in
    let tables = c.args.tables.now in
    let count : c.len-revision.result ≡ length blocks = c.len-revision.ensures.length ∙ all.tabled in
    let behind = c.in_ok-read.ensures.tabled files bytes blocks (block ∷ []) lists all is said in
    let more = files ++ bytes ∷ [] in
    let ts = tables ++ read.table ∷ [] in
    let us = tables ++ p.table ∷ [] in
    let last : IsLast nodes c.len-revision.result c.args.changes.now read = record {
      changes_are = last_changes_are more blocks read.block block ts us lists read.changes list behind p.tabled nodes is ∙ same;
      root_is = ap (root_at nodes) count ∙ last_root_is more blocks read.block block ts us lists read.changes list behind p.tabled nodes is;
      nodes_are = λ id e. last_nodes more blocks read.block block ts us lists read.changes list behind p.tabled nodes is id (e ∙ count);
    } in
    false≢true (sym c.in-Ok-false.field-0-test ∙ c.in-Ok-false.ensures.1 last)
