-- The node revisions of a file by their offsets, and the table of these.
use Rattle.std.proofs.Common.{◌≡◌, ◌-◌, ◌<◌, ℕ, List, [], ◌∷◌, ◌++◌, map, length, get_or, reverse, Option, Some, None, option_map, refl, sym, ap, subst, ◌∙◌}
use Rattle.std.proofs.{Common.{arith, inl, inr, ⊎_elim}, lemmas.Bool.{cases_eq, false≢true}, lemmas.List.{get_or-reverse, length-reverse}}
use Rattle.std.proofs.lemmas.Option.{none-some, same_Some, slice_get-get_or, slice_get-map, slice_get_within, get_or_from_slice_get}
use Rattle.std.specs.{Borrow.Bor, Prelude.{◌⊎◌, All, IfSome, IsSome, IsSomeAnd, slice_get}}
use Rattle.fsfs_text.specs.declared.id.FileId.{FileId}
use Rattle.fsfs.specs.declared.piece.FilePiece.{FilePiece}
use Rattle.filed_trees.specs.{Pieces.RevisionBytes, Trees.first_id, Tables.placed_of}
use Rattle.filed_trees.specs.{Readable.{AreEntries, AreReadable, HasPlaced, IsOneOf, IsReadable, IsTabled}, declared.table.Table.Table}
use Rattle.noderevs.proofs.Pushing.{last_place, other_place}

-- what a table has of rows is what it has of their node revisions
pub placed_rows : (rows : List (Bor FilePiece))
    → map (λ (row : Bor FilePiece). placed_of row.now.node) rows ≡ map (λ (piece : FilePiece). placed_of piece.node) (map (λ (row : Bor FilePiece). row.now) rows)
placed_rows [] = refl
placed_rows (row ∷ rows) = ap (λ l. placed_of row.now.node ∷ l) (placed_rows rows)

-- what is in a list backwards
backwards : {X : Type 0} (xs : List X) (k : ℕ) (x : X) → slice_get xs k ≡ Some x → slice_get (reverse xs) (length xs - 1 - k) ≡ Some x
backwards xs k x at =
    let within = slice_get_within xs k x at in
    slice_get-get_or (reverse xs) (length xs - 1 - k) x (omega (arith, within, length-reverse xs))
    ∙ ap Some (get_or-reverse xs (length xs - 1 - k) x (omega (arith, within))
    ∙ ap (λ j. get_or xs j x) (omega (arith, within)) ∙ get_or_from_slice_get xs k x x at)

pub forwards : {X : Type 0} (xs : List X) (k : ℕ) (x : X) → slice_get (reverse xs) k ≡ Some x → slice_get xs (length xs - 1 - k) ≡ Some x
forwards xs k x at =
    let back : k < length (reverse xs) = slice_get_within (reverse xs) k x at in
    let within : k < length xs = omega (arith, back, length-reverse xs) in
    slice_get-get_or xs (length xs - 1 - k) x (omega (arith, within))
    ∙ ap Some (sym (get_or-reverse xs k x within) ∙ get_or_from_slice_get (reverse xs) k x x at)

no_first : (pieces : List FilePiece) → slice_get pieces 0 ≡ None → IsSome (first_id pieces) → ⊥
no_first [] at some = false≢true some
no_first (piece ∷ pieces) at some = none-some piece (sym at)

some_first : (pieces : List FilePiece) (P : FilePiece → Type 0) → IsSomeAnd (slice_get pieces 0) P → IsSome (first_id pieces)
some_first [] P is = absurd is
some_first (piece ∷ pieces) P is = refl

abbrev pub piece_of : Bor FilePiece → FilePiece
piece_of row = row.now

module _ (rows : List (Bor FilePiece)) (pieces : List FilePiece) (are : map piece_of rows ≡ reverse pieces) where
  -- the node revision of a row
  of_row : (k : ℕ) (row : Bor FilePiece) → slice_get rows k ≡ Some row → slice_get pieces (length pieces - 1 - k) ≡ Some row.now
  of_row k row at = forwards pieces k row.now
      (ap (λ l. slice_get l k) (sym are) ∙ slice_get-map piece_of rows k ∙ ap (option_map piece_of) at)

  -- the row of a node revision
  row_of : (k : ℕ) (piece : FilePiece) → slice_get pieces k ≡ Some piece
      → option_map piece_of (slice_get rows (length pieces - 1 - k)) ≡ Some piece
  row_of k piece at = sym (slice_get-map piece_of rows (length pieces - 1 - k)) ∙ ap (λ l. slice_get l (length pieces - 1 - k)) are
      ∙ backwards pieces k piece at

  pub each_row : (P : FilePiece → Type 0) → ((k : ℕ) (piece : FilePiece) → slice_get pieces k ≡ Some piece → P piece)
      → All (λ row. P row.now) rows
  each_row P all k d lt = all _ _ (of_row k (get_or rows k d) (slice_get-get_or rows k d lt))

  pub each_piece : (P : FilePiece → Type 0) → All (λ row. P row.now) rows → (k : ℕ) (piece : FilePiece) → slice_get pieces k ≡ Some piece → P piece
  each_piece P all k piece at = by (length pieces - 1 - k) (slice_get rows (length pieces - 1 - k)) refl (row_of k piece at)
    where
      by : (j : ℕ) (o : Option (Bor FilePiece)) → slice_get rows j ≡ o → option_map piece_of o ≡ Some piece → P piece
      by j None there e = absurd (none-some piece e)
      by j (Some row) there e = subst P (same_Some row.now piece e)
          (subst (λ (r : Bor FilePiece). P r.now) (get_or_from_slice_get rows j row row there) (all j row (slice_get_within rows j row there)))

  module _ (tables : List Table) (table : Table)
      (placed : table.placed.items ≡ map (λ (row : Bor FilePiece). placed_of row.now.node) rows)
      (revision : (k : ℕ) (piece : FilePiece) → slice_get pieces k ≡ Some piece → piece.node.id.revision ≡ length tables) where
    place_at : (k : ℕ) → slice_get table.placed.items k ≡ option_map (λ (row : Bor FilePiece). placed_of row.now.node) (slice_get rows k)
    place_at k = ap (λ l. slice_get l k) placed ∙ slice_get-map (λ (row : Bor FilePiece). placed_of row.now.node) rows k

    one_of : (id : FileId) → HasPlaced table.placed.items id → IsOneOf pieces id
    one_of id has = by has.0 (slice_get rows has.0) refl (subst (λ o. IsSomeAnd o (λ p. p.id ≡ id)) (place_at has.0) has.1)
      where
        by : (k : ℕ) (o : Option (Bor FilePiece)) → slice_get rows k ≡ o
            → IsSomeAnd (option_map (λ (row : Bor FilePiece). placed_of row.now.node) o) (λ p. p.id ≡ id) → IsOneOf pieces id
        by k None at is = absurd is
        by k (Some row) at is = (
          length pieces - 1 - k,
          subst (λ o. IsSomeAnd o (λ piece. piece.node.id ≡ id)) (sym (of_row k row at)) is,
        )

    has_placed : (id : FileId) (k : ℕ) (piece : FilePiece) → slice_get pieces k ≡ Some piece → piece.node.id ≡ id → HasPlaced table.placed.items id
    has_placed id k piece at is = (
      length pieces - 1 - k,
      subst (λ o. IsSomeAnd o (λ p. p.id ≡ id)) (sym (place_at (length pieces - 1 - k)))
          (by (slice_get rows (length pieces - 1 - k)) (row_of k piece at)),
    )
      where
        by : (o : Option (Bor FilePiece)) → option_map piece_of o ≡ Some piece
            → IsSomeAnd (option_map (λ (row : Bor FilePiece). placed_of row.now.node) o) (λ p. p.id ≡ id)
        by None e = absurd (none-some piece e)
        by (Some row) e = ap (λ (p : FilePiece). p.node.id) (same_Some row.now piece e) ∙ is

    -- what is tabled with this table was tabled before, or is one of these
    pub known_more : (id : FileId) → IsTabled (tables ++ table ∷ []) id → IsTabled tables id ⊎ IsOneOf pieces id
    known_more id is = ⊎_elim
        (λ e. inr (one_of id (subst (λ o. IsSomeAnd o (λ (t : Table). HasPlaced t.placed.items id))
        (ap (slice_get (tables ++ table ∷ [])) e ∙ last_place tables table) is)))
        (λ ne. inl (subst (λ o. IsSomeAnd o (λ (t : Table). HasPlaced t.placed.items id)) (other_place tables table id.revision ne) is))
        (cases_eq id.revision (length tables))

    tabled_within : (id : FileId) (o : Option Table) → slice_get tables id.revision ≡ o → IsSomeAnd o (λ (t : Table). HasPlaced t.placed.items id)
        → id.revision ≡ length tables → ⊥
    tabled_within id None at is e = is
    tabled_within id (Some t) at is e = omega (arith, e, slice_get_within tables id.revision t at)

    pub known_less : (id : FileId) → IsTabled tables id ⊎ IsOneOf pieces id → IsTabled (tables ++ table ∷ []) id
    known_less id = ⊎_elim
        (λ is. subst (λ o. IsSomeAnd o (λ (t : Table). HasPlaced t.placed.items id))
        (sym (other_place tables table id.revision (tabled_within id (slice_get tables id.revision) refl is))) is)
        (λ one. by one.0 (slice_get pieces one.0) refl one.1)
      where
        by : (k : ℕ) (o : Option FilePiece) → slice_get pieces k ≡ o → IsSomeAnd o (λ piece. piece.node.id ≡ id) → IsTabled (tables ++ table ∷ []) id
        by k None at is = absurd is
        by k (Some piece) at is =
            let e : id.revision ≡ length tables = ap (λ (i : FileId). i.revision) (sym is) ∙ revision k piece at in
            subst (λ o. IsSomeAnd o (λ (t : Table). HasPlaced t.placed.items id))
            (sym (ap (slice_get (tables ++ table ∷ [])) e ∙ last_place tables table)) (has_placed id k piece at is)

    same_known : (files : RevisionBytes) (known other : FileId → Type 0) → ((id : FileId) → known id → other id) → (piece : FilePiece)
        → IsReadable files tables known piece → IsReadable files tables other piece
    same_known files known other into piece r = record {
      path = r.path;
      before = r.before;
      text = r.text;
      kind = r.kind;
      entries = by _ r.entries;
      properties = r.properties;
      list = r.list;
    }
      where
        leads : (o : Option FileId) → IfSome o known → IfSome o other
        leads None is = tt
        leads (Some id) is = into id is

        by : (o : Option _) → IsSomeAnd o (AreEntries known) → IsSomeAnd o (AreEntries other)
        by None are = absurd are
        by (Some entries) are = record { once = are.once; known = λ name. leads _ (are.known name) }

    abbrev IsKnown : FileId → Type 0
    IsKnown = IsTabled (tables ++ table ∷ [])

    first_known : IsSome (first_id pieces) → IsSomeAnd (slice_get pieces 0) (λ piece. IsKnown piece.node.id)
    first_known some = by (slice_get pieces 0) refl
      where
        by : (o : Option FilePiece) → slice_get pieces 0 ≡ o → IsSomeAnd o (λ piece. IsKnown piece.node.id)
        by None at = absurd (no_first pieces at some)
        by (Some piece) at = known_less piece.node.id (inr (0, subst (λ o. IsSomeAnd o (λ p. p.node.id ≡ piece.node.id)) (sym at) refl))

    pub are_readable : (files : RevisionBytes) → IsSomeAnd (slice_get pieces 0) (λ piece. IsKnown piece.node.id)
        → All (λ row. IsReadable files tables IsKnown row.now) rows → AreReadable files tables pieces
    are_readable files root all = record {
      root = some_first pieces (λ piece. IsKnown piece.node.id) root;
      nodes = λ k d lt. same_known files IsKnown (λ id. IsTabled tables id ⊎ IsOneOf pieces id) known_more (get_or pieces k d)
          (each_piece (IsReadable files tables IsKnown) all k (get_or pieces k d) (slice_get-get_or pieces k d lt));
    }

    pub rows_readable : (files : RevisionBytes) → AreReadable files tables pieces
        → IsSomeAnd (slice_get pieces 0) (λ piece. IsKnown piece.node.id) × All (λ row. IsReadable files tables IsKnown row.now) rows
    rows_readable files are = (
      first_known are.root,
      each_row (IsReadable files tables IsKnown) (λ k piece at.
          same_known files (λ id. IsTabled tables id ⊎ IsOneOf pieces id) IsKnown known_less piece
          (subst (IsReadable files tables (λ id. IsTabled tables id ⊎ IsOneOf pieces id)) (get_or_from_slice_get pieces k piece piece at)
          (are.nodes k piece (slice_get_within pieces k piece at)))),
    )
