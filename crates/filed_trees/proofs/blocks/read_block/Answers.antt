use Rattle.std.proofs.Common.{◌≡◌, ◌++◌, ◌∷◌, [], map, Some, option_map, sym, ap, subst, ◌∙◌}
use Rattle.std.specs.{Borrow.Bor, Prelude.{All, IsSomeAnd, length, slice_get}}
use Rattle.fsfs.specs.declared.piece.FilePiece.{FilePiece}
use Rattle.filed_trees.specs.{Tables.{IsAt, IsPlaced, placed_of}, Comparing.IsOfLast, Readable.{IsReadable, IsTabled}}
use Rattle.filed_trees.proofs.{Compared.first_of, Judged.no_part, Rows.{are_readable, each_row, placed_rows, rows_readable}}
use Rattle.filed_trees.proofs.blocks.read_block.Goals as goal

pub returns-in-Ok-clause-read : goal.returns-in-Ok-clause-read
returns-in-Ok-clause-read c = λ files for.
    let tables = c.args.tables.now in
    let table = c.in_ok-table.table in
    let all = tables ++ table ∷ [] in
    let block = c.in-Ok.block in
    let pieces = c.args.pieces.now in
    let rows = c.in_ok-rows.rows.items in
    let of_last = IsOfLast files (length tables) in
    let known = IsTabled all in
    let last : All (λ (row : Bor FilePiece). of_last row.now) rows = each_row rows pieces c.in_ok-rows.ensures of_last for.last in
    let placed : table.placed.items ≡ map (λ (row : Bor FilePiece). placed_of row.now.node) rows =
    c.in_ok-table.ensures ∙ ap (map (λ (row : Bor FilePiece). placed_of row.now.node)) c.as_slice.ensures.value in
    let read = c.in-Ok.ensures.read files (record { long = for.long; changes = for.changes; earlier = for.earlier table })
    (subst (All (λ (row : Bor FilePiece). of_last row.now)) (sym c.as_slice-2.ensures.value) last) in (
      are_readable rows pieces c.in_ok-rows.ensures tables table placed (λ k piece at. (for.last k piece at).revision_is) files
          (subst (λ o. IsSomeAnd o (λ piece. known piece.node.id)) c.first.ensures.value read.0.0)
          (subst (All (λ (row : Bor FilePiece). IsReadable files tables known row.now)) c.as_slice-2.ensures.value read.0.1),
      record {
        nodes = λ id rev. subst (λ l. IsPlaced files all id (slice_get block.nodes.items id.place) (slice_get l id.place))
            (sym (placed ∙ ap (map (λ (row : Bor FilePiece). placed_of row.now.node)) (sym c.as_slice-2.ensures.value)))
            (read.1 id rev);
        root = subst (IsAt all (Some block.root)) (ap (option_map (λ p. p.node.id)) c.first.ensures.value ∙ first_of pieces) c.in-Ok.ensures.root;
      },
    )

pub returns-in-Ok-clause-rows : goal.returns-in-Ok-clause-rows
returns-in-Ok-clause-rows c =
    c.in_ok-table.ensures ∙ ap (map (λ (row : Bor FilePiece). placed_of row.now.node)) c.as_slice.ensures.value
    ∙ placed_rows c.in_ok-rows.rows.items ∙ ap (map (λ (p : FilePiece). placed_of p.node)) c.in_ok-rows.ensures

pub returns-clause-read : goal.returns-clause-read
returns-clause-read c = λ files for.
    let tables = c.args.tables.now in
    let table = c.in_ok-table.table in
    let pieces = c.args.pieces.now in
    let rows = c.in_ok-rows.rows.items in
    let of_last = IsOfLast files (length tables) in
    let known = IsTabled (tables ++ table ∷ []) in
    let placed : table.placed.items ≡ map (λ (row : Bor FilePiece). placed_of row.now.node) rows =
    c.in_ok-table.ensures ∙ ap (map (λ (row : Bor FilePiece). placed_of row.now.node)) c.as_slice.ensures.value in
    let last : All (λ (row : Bor FilePiece). of_last row.now) rows = each_row rows pieces c.in_ok-rows.ensures of_last for.last in
    no_part c.in-Err.fault (λ are.
    let two = rows_readable rows pieces c.in_ok-rows.ensures tables table placed (λ k piece at. (for.last k piece at).revision_is) files are in (
      subst (λ o. IsSomeAnd o (λ piece. known piece.node.id)) (sym c.first.ensures.value) two.0,
      subst (All (λ (row : Bor FilePiece). IsReadable files tables known row.now)) (sym c.as_slice-2.ensures.value) two.1,
    ))
    (c.in-Err.ensures.read files (record { long = for.long; changes = for.changes; earlier = for.earlier table })
    (subst (All (λ (row : Bor FilePiece). of_last row.now)) (sym c.as_slice-2.ensures.value) last))
