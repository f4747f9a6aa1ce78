use Rattle.std.proofs.Common.{rules, ◌≡◌, ◌+◌, ◌++◌, ◌∷◌, [], length, map, Some, option_map, sym, ap, subst, ◌∙◌, arith, length-append, Err, take, Vec, Global}
use Rattle.std.proofs.{lemmas.List.{length-map, take_all}, lemmas.Option.{slice_get-get_or, slice_get-map}, lemmas.List.Elements.{All-more, All-same}}
use Rattle.std.specs.{Borrow.Bor, Prelude.All}
use Rattle.fsfs.specs.declared.piece.FilePiece.{FilePiece}
use Rattle.filed_trees.specs.{Tables.placed_of, Comparing.{AreReadFrom, IsOfLast, revision_in, tables_of, HaveHeights}}
use Rattle.filed_trees.specs.Readable.{IsReadable, IsTabled, ReadsWhere}
use Rattle.noderevs.specs.{declared.node_rev.NodeRev.NodeRev, Heights.IsHeight, Held.node_at, Nodes.with_block}
use Rattle.filed_trees.proofs.{Reading.{AreRead, all_read, one_read}, Judged.no_part, Heights.heights_more}
use Rattle.filed_trees.proofs.blocks.Reading.nodes.Goals as goal

pub loop-row-preserved : goal.loop-row-preserved
loop-row-preserved c =
    let rows = c.args.rows.now in
    let placed = λ (row : Bor FilePiece). placed_of row.now.node in
    let nodes = c.loop-row.nodes.items in
    let i = c.loop-row.row-index in
    let row = c.row-item.result in
    let places = c.args.self.places in
    let node = c.in_ok-node.node in
    let long = c.loop-row.invariant.0 in
    let pushed : c.push.new.self.items ≡ nodes ++ node ∷ [] = search rules in (
      ap length pushed ∙ omega (arith, long, length-append nodes (node ∷ [])),
      (
        λ files for last.
            subst (λ ns. AreRead files (tables_of places) (revision_in places) (map placed rows) ns (i + 1)) (sym pushed)
            (one_read files (tables_of places) (revision_in places) (map placed rows) nodes node (placed row) i long
            (slice_get-map placed rows i ∙ ap (option_map placed) (slice_get-get_or rows i row c.loop-row-test.true ∙ ap Some (sym c.row-item.is)))
            (c.in_ok-node.ensures.read files for (subst (λ (r : Bor FilePiece). IsOfLast files (revision_in places) r.now) (sym c.row-item.is) (last i row c.loop-row-test.true))).1
            (c.loop-row.invariant.1.0 files for last)),
        (
          λ files for last.
              let right = λ (r : Bor FilePiece). IsReadable files places.tables.now (IsTabled (tables_of places)) r.now in
              All-more right rows i row c.loop-row-test.true (c.loop-row.invariant.1.1.0 files for last)
              (subst right c.row-item.is (c.in_ok-node.ensures.read files for
              (subst (λ (r : Bor FilePiece). IsOfLast files (revision_in places) r.now) (sym c.row-item.is) (last i row c.loop-row-test.true))).0),
          subst (HaveHeights (node_at places.nodes.now) (revision_in places)) (sym pushed)
              (heights_more (node_at places.nodes.now) (revision_in places) nodes node c.loop-row.invariant.1.1.1
              (subst (λ ns. IsHeight (with_block (node_at places.nodes.now) (revision_in places) ns) node.kids node.height)
              c.as_slice.ensures.value c.in_ok-node.ensures.height)),
        ),
      ),
    )

pub returns-in_err-node-clause-read : goal.returns-in_err-node-clause-read
returns-in_err-node-clause-read c = λ files for last.
    let places = c.args.self.places in
    let rows = c.args.rows.now in
    let i = c.loop-row.row-index in
    let row = c.row-item.result in
    let right = λ (r : Bor FilePiece). IsReadable files places.tables.now (IsTabled (tables_of places)) r.now in
    let fault = c.in_err-node.field-0.0 in
    let is : c.from_residual-in_err-node.result ≡ Err fault = search rules in
    subst (λ r. ReadsWhere r (All right rows) (λ (nodes : Vec NodeRev Global). AreReadFrom files places rows nodes.items)) (sym is)
    (no_part fault (λ all. subst right (sym c.row-item.is) (all i row c.loop-row-test.true))
    (c.in_err-node.ensures.read files for
    (subst (λ (r : Bor FilePiece). IsOfLast files (revision_in places) r.now) (sym c.row-item.is) (last i row c.loop-row-test.true))))

pub returns-clause-read : goal.returns-clause-read
returns-clause-read c = λ files for last.
    let placed = λ (row : Bor FilePiece). placed_of row.now.node in
    let places = c.args.self.places in
    let rows = c.args.rows.now in
    let over = c.loop-row-test.false in
    let same : length (map placed rows) ≡ length rows = length-map rows placed in (
      All-same (λ (r : Bor FilePiece). IsReadable files places.tables.now (IsTabled (tables_of places)) r.now)
          rows (take c.loop-row.row-index rows) (sym (take_all _ rows over)) (c.loop-row.invariant.1.1.0 files for last),
      all_read files (tables_of places) (revision_in places) (map placed rows) c.loop-row.nodes.items c.loop-row.row-index
          c.loop-row.invariant.0 (omega (arith, same, over)) (c.loop-row.invariant.1.0 files for last),
    )
