-- What is read of a file that was laid out is the block.
use Rattle.std.proofs.Common.{◌≡◌, ◌≢◌, ◌<◌, ◌≤◌, ◌^◌, ◌⊎◌, inl, inr, ◌==◌, ◌+◌, ◌-◌, ℕ, zero, suc, Bool, true, false, List, [], ◌∷◌, ◌++◌, length, map}
use Rattle.std.proofs.Common.{reverse, take, get_or, Option, Some, None, Ok, is_some, refl, sym, ap, subst, ◌∙◌, arith, rules, if◌then◌else◌}
use Rattle.std.proofs.{lemmas.Bool.{eqb-true, false≢true}, lemmas.List.{get_or-reverse, length-append, length-reverse, map-append, reverse-append}}
use Rattle.std.proofs.{lemmas.List.Elements.All-contains_itself, lemmas.Simd.map-map}
use Rattle.std.proofs.lemmas.Option.{get_or_from_slice_get, slice_get-get_or, slice_get-map, slice_get_cases, slice_get_past, slice_get_within}
use Rattle.std.specs.{Arc.arc_value, FinMap.entries, Prelude.{Contains, IfSome, IsSome, IsSomeAnd, option_and_then, option_map, slice_get}}
use Rattle.svnpath.specs.Paths.{Component}
use Rattle.repo_api.specs.States.{ChangeMap}
use Rattle.repo_api.specs.declared.entry.Content.TheVariants as contents
use Rattle.noderevs.specs.{Held.{blocks_of, node_at}, Nodes.kid_of, declared.node_rev.Block.Block, declared.node_rev.NodeId.NodeId}
use Rattle.noderevs.specs.declared.node_rev.NodeRev.{NodeRev}
use Rattle.noderevs.proofs.Pushing.{last_place, other_place}
use Rattle.block_rules.specs.Rules.{IsNewKid, IsOldKid, IsRightRoot, past_of}
use Rattle.fsfs_nodes.specs.{declared.current.NextIds.NextIds, Nodes.node_bytes, Changes.changes_bytes, Trailers.trailer_bytes}
use Rattle.fsfs_nodes.specs.declared.change.FileChange.{FileChange}
use Rattle.fsfs_text.specs.{Fits.IdFits, declared.id.FileId.FileId}
use Rattle.fsfs.specs.{Pieces.revision_of, declared.piece.FilePiece.FilePiece, Files.{Piece, PiecesFit, brought, file_bytes, piece_bytes, pieces_bytes}}
use Rattle.fsfs.specs.Whole.{file_piece}
use Rattle.filed_trees.specs.{Changes.{ChangeRows, changes_in}, Comparing.{AreForAll, AreNew, IsOfLast}, Pieces.RevisionBytes}
use Rattle.filed_trees.specs.{Tables.{AreTabled, HasRows, IsAt, IsPlaced, placed_in, placed_of}, Trees.first_id, declared.placed.Placed.Placed}
use Rattle.filed_trees.specs.{declared.table.Table.Table, Readable.{AreReadable, IsOneOf, IsReadable, IsReadableFile, IsTabled}}
use Rattle.filed_trees.proofs.Reading.{for_all, tabled_read}
use Rattle.filed_writing.specs.Layout.{IsLaidOut, copies_here, file_id, made_from, nodes_in, nodes_of, pieces_here}
use Rattle.filed_writing.specs.{Pieces.{counter_in, ids_of, properties_of}, declared.revision.Revision.Revision, Blocks.IsRightBlock}
use Rattle.filed_laws.specs.{Earlier.AreEarlierLines, Fitting.RevisionFits, Right.IsRightRevision}
use Rattle.filed_laws.proofs.{Entering.{OfNode, as_many, of_node, piece_fits}, Made.here_made, Older.{all_older, earlier_place}, Options.{more_some, of_some}}
use Rattle.filed_laws.proofs.{Parents.{HasParent, parent}, Whole.read_again, Changed.said_again, Deep.right_path, Filed.filed, Listed.AreKnownIds}
use Rattle.filed_laws.proofs.Readable.{readable, tabled_at}
use Rattle.filed_laws.proofs.Whole as again

-- ---- lists

backwards : {X : Type 0} (xs : List X) (k : ℕ) (x : X) → slice_get xs k ≡ Some x → slice_get (reverse xs) (length xs - 1 - k) ≡ Some x
backwards xs k x at =
    let within = slice_get_within xs k x at in
    slice_get-get_or (reverse xs) (length xs - 1 - k) x (omega (arith, within, length-reverse xs))
    ∙ ap Some (get_or-reverse xs (length xs - 1 - k) x (omega (arith, within))
    ∙ ap (λ j. get_or xs j x) (omega (arith, within)) ∙ get_or_from_slice_get xs k x x at)

map_back : {A B : Type 0} (f : A → B) (xs : List A) → reverse (map f (reverse xs)) ≡ map f xs
map_back f [] = refl
map_back {A} {B} f (x ∷ xs) =
    ap (λ (l : List A). reverse (map f l)) (reverse-append (x ∷ []) xs)
    ∙ (ap (λ (l : List B). reverse l) (map-append f (reverse xs) (x ∷ []))
    ∙ (reverse-append (map f (reverse xs)) (f x ∷ []) ∙ ap (λ (l : List B). f x ∷ l) (map_back f xs)))

forwards : {X : Type 0} (xs : List X) (k : ℕ) (x : X) → slice_get (reverse xs) k ≡ Some x → slice_get xs (length xs - 1 - k) ≡ Some x
forwards xs k x at =
    let back : k < length (reverse xs) = slice_get_within (reverse xs) k x at in
    let within : k < length xs = omega (arith, back, length-reverse xs) in
    slice_get-get_or xs (length xs - 1 - k) x (omega (arith, within))
    ∙ ap Some (sym (get_or-reverse xs k x within) ∙ get_or_from_slice_get (reverse xs) k x x at)

table_rows : (pieces : List Piece) (table : Table) → HasRows (map file_piece (reverse pieces)) table
    → table.placed.items ≡ map (λ (piece : Piece). placed_of piece.node) pieces
table_rows pieces table rows =
    rows ∙ (ap (λ (l : List FilePiece). map (λ (piece : FilePiece). placed_of piece.node) l) (map_back file_piece pieces)
    ∙ map-map (λ (piece : FilePiece). placed_of piece.node) file_piece pieces)

-- the first that is read is the last that was written
first_of : (pieces : List Piece) (p : Piece) → slice_get pieces 0 ≡ Some p → first_id (map file_piece pieces) ≡ Some p.node.id
first_of [] p e = absurd (cc e)
first_of (q ∷ pieces) p e = let same : q ≡ p = cc e in ap (λ (x : Piece). Some x.node.id) same

-- what comes with one of them is shorter than all
part_long : (pieces : List Piece) (k : ℕ) (piece : Piece) → slice_get pieces k ≡ Some piece
    → length (brought piece.text) + length (brought piece.properties) ≤ length (pieces_bytes pieces)
part_long [] k piece is = absurd (cc is)
part_long (first ∷ pieces) zero piece is =
    let same : first ≡ piece = cc is in
    subst (λ (p : Piece). length (brought p.text) + length (brought p.properties) ≤ length (pieces_bytes (first ∷ pieces))) same
    (omega (
      arith,
      length-append (piece_bytes first) (pieces_bytes pieces),
      length-append (brought first.text) (brought first.properties ++ node_bytes first.node),
      length-append (brought first.properties) (node_bytes first.node),
    ))
part_long (first ∷ pieces) (suc k) piece is =
    omega (arith, part_long pieces k piece is, length-append (piece_bytes first) (pieces_bytes pieces))

file_bound : (pieces : List Piece) (changes : List FileChange) (root : ℕ) → length (file_bytes pieces changes root) < 2 ^ 64
    → length (pieces_bytes pieces) < 2 ^ 64
file_bound pieces changes root whole =
    let trailer : List ℕ = trailer_bytes (record { root = root; changes = length (pieces_bytes pieces) }) in
    omega (arith, whole, length-append (pieces_bytes pieces ++ changes_bytes changes) trailer, length-append (pieces_bytes pieces) (changes_bytes changes))

-- an id that was written is that of one in front
got : (k : ℕ) (pieces : List Piece) (place : ℕ) (id : FileId) → slice_get (ids_of (take k pieces)) place ≡ Some id
    → (piece : Piece) × (slice_get pieces place ≡ Some piece) × (piece.node.id ≡ id)
got zero pieces place id is = absurd (cc is)
got (suc k) [] place id is = absurd (cc is)
got (suc k) (piece ∷ pieces) zero id is = (piece, refl, cc is)
got (suc k) (piece ∷ pieces) (suc place) id is = got k pieces place id is

-- ---- the nodes of a revision

module _ (r : Revision) (ids : Option NextIds) (pieces : List Piece) (right : IsRightRevision r) (lines : AreEarlierLines r.tables.now) (facts : RevisionFits r ids)
    (e : pieces_here r ids ≡ Some pieces) (bound : length (pieces_bytes pieces) < 2 ^ 64) (block_right : IsRightBlock r)
    (table : Table) (rows : HasRows (map file_piece (reverse pieces)) table) where
  abbrev tables : List Table
  tables = r.tables.now ++ table ∷ []

  fits : PiecesFit pieces
  fits = again.fit r ids pieces right lines facts e bound

  of : (k : ℕ) (piece : Piece) → slice_get pieces k ≡ Some piece → OfNode r [] (nodes_of r) k pieces piece
  of k piece is = of_node r [] (nodes_of r) (counter_in ids r.number) (copies_here r ids) pieces k piece (here_made r ids pieces e) is

  many : length pieces ≡ length (nodes_of r)
  many = as_many r [] (nodes_of r) (counter_in ids r.number) (copies_here r ids) pieces (here_made r ids pieces e)

  -- what the table has at a place
  row_at : (k : ℕ) (piece : Piece) → slice_get pieces k ≡ Some piece → slice_get table.placed.items k ≡ Some (placed_of piece.node)
  row_at k piece is =
      ap (λ (l : List Placed). slice_get l k) (table_rows pieces table rows) ∙ slice_get-map (λ (p : Piece). placed_of p.node) pieces k
      ∙ ap (option_map (λ (p : Piece). placed_of p.node)) is

  placed_here : (id : NodeId) → id.rev ≡ r.number → placed_in tables id ≡ slice_get table.placed.items id.place
  placed_here id rev =
      ap (option_and_then (λ (t : Table). slice_get t.placed.items id.place))
      (ap (slice_get tables) (rev ∙ right.tabled) ∙ last_place r.tables.now table)

  placed_other : (id : NodeId) → id.rev ≢ r.number → placed_in tables id ≡ placed_in r.tables.now id
  placed_other id ne =
      ap (option_and_then (λ (t : Table). slice_get t.placed.items id.place))
      (other_place r.tables.now table id.rev (λ same. ne (same ∙ sym right.tabled)))

  -- what the ids of entries are
  known : (k : ℕ) → AreKnownIds r tables (ids_of (take k pieces))
  known k id file is = by (id.rev == r.number) refl is
    where
      earlier : id.rev ≢ r.number → (o : Option Placed) → placed_in r.tables.now id ≡ o → option_map (λ p. p.id) o ≡ Some file
          → (option_map (λ p. p.id) (placed_in tables id) ≡ Some file) × IdFits file
      earlier ne None at e = absurd (cc e)
      earlier ne (Some p) at e =
          let same : p.id ≡ file = cc e in
          (ap (option_map (λ (q : Placed). q.id)) (placed_other id ne ∙ at) ∙ e, subst IdFits same (of_some _ (placed_in r.tables.now id) p at (facts.tables id)).id)

      by : (c : Bool) → (id.rev == r.number) ≡ c
          → (if c then slice_get (ids_of (take k pieces)) id.place else option_map (λ p. p.id) (placed_in r.tables.now id)) ≡ Some file
          → (option_map (λ p. p.id) (placed_in tables id) ≡ Some file) × IdFits file
      by true here e =
          let found = got k pieces id.place file e in (
            ap (option_map (λ (q : Placed). q.id)) (placed_here id (eqb-true id.rev r.number here) ∙ row_at id.place found.0 found.1)
                ∙ ap (λ (f : FileId). Some f) found.2,
            subst IdFits found.2 (piece_fits pieces id.place found.0 fits found.1).id,
          )
      by false other e =
          earlier (λ same. false≢true (sym other ∙ ap (λ (n : ℕ). n == r.number) same ∙ search (rules, arith))) (placed_in r.tables.now id) refl e

  block_at : slice_get (blocks_of r.nodes.now) r.number ≡ Some right.block
  block_at = ap (λ (l : List Block). slice_get l r.number) right.nodes
      ∙ ap (slice_get (blocks_of right.past ++ right.block ∷ [])) right.number ∙ last_place (blocks_of right.past) right.block

  nodes_are : nodes_of r ≡ right.block.nodes.items
  nodes_are = ap nodes_in block_at

  in_block : (k : ℕ) (node : NodeRev) → slice_get (nodes_of r) k ≡ Some node → slice_get right.block.nodes.items k ≡ Some node
  in_block k node there = ap (λ (l : List NodeRev). slice_get l k) (sym nodes_are) ∙ there

  no_kids : (k : ℕ) (node : NodeRev) → slice_get (nodes_of r) k ≡ Some node → (text : List ℕ) → arc_value node.content ≡ contents.File text
      → (name : Component) → kid_of name node ≡ None
  no_kids k node there text file name = ((right.rules.nodes k node (in_block k node there)).file text file).no_entries name

  -- the last node is the root: any other is an entry of one behind it
  module _ (k : ℕ) (end : suc k ≡ length pieces) where
    past_kid : (h : HasParent right.past right.block r.changes.now right.rules k) → IsNewKid (past_of right.past) right.block h.place (h.node.path ++ h.name ∷ []) h.kid
        ⊎ IsOldKid (past_of right.past) r.changes.now (h.node.path ++ h.name ∷ []) h.kid → ⊥
    past_kid h (inl new) =
        let within = slice_get_within right.block.nodes.items h.place h.node h.there in
        let long = ap (λ (l : List NodeRev). length l) nodes_are in
        omega (arith, new.front, h.at, within, long, many, end)
    past_kid h (inr old) =
        let none : node_at right.past h.kid ≡ None =
        ap (option_and_then (λ (b : Block). slice_get b.nodes.items h.kid.place)) (slice_get_past (blocks_of right.past) h.kid.rev (omega (arith, h.here))) in
        false≢true (sym (ap is_some none) ∙ old.there)

    is_root : right.block.root.place ≡ k
    is_root = by (slice_get_cases (nodes_of r) k).1
      where
        choose : (right.block.root.place ≡ k) ⊎ HasParent right.past right.block r.changes.now right.rules k → right.block.root.place ≡ k
        choose (inl here) = here
        choose (inr h) = absurd (past_kid h ((right.rules.nodes h.place h.node h.there).kids h.name h.kid h.is).node)

        by : ((node : NodeRev) × (k < length (nodes_of r)) × (slice_get (nodes_of r) k ≡ Some node) × (get_or (nodes_of r) k node ≡ node))
            ⊎ ((length (nodes_of r) ≤ k) × (slice_get (nodes_of r) k ≡ None)) → right.block.root.place ≡ k
        by (inl found) = choose (parent right.past right.block r.changes.now right.rules k found.0 (in_block k found.0 found.2))
        by (inr past) = absurd (omega (arith, past.0, end, many))

  root_within : (o : Option NodeRev) → slice_get right.block.nodes.items right.block.root.place ≡ o → IsSomeAnd o IsRightRoot
      → right.block.root.place < length right.block.nodes.items
  root_within None at is = absurd is
  root_within (Some node) at is = slice_get_within right.block.nodes.items right.block.root.place node at

  root_at : IsAt tables (Some right.block.root) (first_id (map file_piece (reverse pieces)))
  root_at = by (slice_get_cases pieces (length pieces - 1)).1
    where
      some : right.block.root.place < length right.block.nodes.items
      some = root_within (slice_get right.block.nodes.items right.block.root.place) refl right.rules.root

      end : suc (length pieces - 1) ≡ length pieces
      end = let long = ap (λ (l : List NodeRev). length l) nodes_are in omega (arith, some, long, many)

      by : ((piece : Piece) × (length pieces - 1 < length pieces) × (slice_get pieces (length pieces - 1) ≡ Some piece) × (get_or pieces (length pieces - 1) piece ≡ piece))
          ⊎ ((length pieces ≤ length pieces - 1) × (slice_get pieces (length pieces - 1) ≡ None))
          → IsAt tables (Some right.block.root) (first_id (map file_piece (reverse pieces)))
      by (inr past) = absurd (omega (arith, past.0, end))
      by (inl found) =
          let at_root : slice_get pieces right.block.root.place ≡ Some found.0 =
          ap (slice_get pieces) (is_root (length pieces - 1) end) ∙ found.2 in
          let first : slice_get (reverse pieces) 0 ≡ Some found.0 =
          ap (slice_get (reverse pieces)) (omega (arith, end)) ∙ backwards pieces (length pieces - 1) found.0 found.2 in
          subst (IsAt tables (Some right.block.root)) (sym (first_of (reverse pieces) found.0 first))
          (ap (option_map (λ (p : Placed). p.id))
          (placed_here right.block.root (right.rules.here ∙ sym right.number) ∙ row_at right.block.root.place found.0 at_root))

  module _ (fs : RevisionBytes) (changes : ChangeRows) (same : changes ≡ r.changes.now)
      (for : AreForAll fs r.nodes.now r.tables.now changes (map file_piece (reverse pieces))) where
    last : (k : ℕ) (piece : Piece) → slice_get pieces k ≡ Some piece → IsOfLast fs r.number (file_piece piece)
    last k piece is =
        subst (λ n. IsOfLast fs n (file_piece piece)) (sym right.tabled)
        (for.last (length pieces - 1 - k) (file_piece piece)
        (slice_get-map file_piece (reverse pieces) (length pieces - 1 - k) ∙ ap (option_map file_piece) (backwards pieces k piece is)))

    said_here : changes_in fs r.number ≡ Some changes
    said_here = ap (changes_in fs) right.tabled ∙ for.changes

    one : (id : NodeId) (piece : Piece) → id.rev ≡ r.number → slice_get pieces id.place ≡ Some piece
        → IsPlaced fs tables id (slice_get (nodes_of r) id.place) (slice_get table.placed.items id.place)
    one id piece rev is =
        let o = of id.place piece is in
        let made = o.made in
        let among : Contains (nodes_of r) o.node =
        subst (λ (n : NodeRev). Contains (nodes_of r) n) (get_or_from_slice_get (nodes_of r) id.place o.node o.node o.there)
        (All-contains_itself (nodes_of r) id.place o.node (slice_get_within (nodes_of r) id.place o.node o.there)) in
        let place = length (pieces_bytes (take id.place pieces)) in
        let long : length fs ≡ suc r.number = for.long ∙ ap suc (sym right.tabled) in
        let under = part_long pieces id.place piece is in
        let small : length (brought made.content.new) < 2 ^ 64 =
        subst (λ (p : Piece). length (brought p.text) < 2 ^ 64) (sym made.is) (omega (arith, bound, under)) in
        let small_properties : length (brought (properties_of o.node (made_from r o.node)).new) < 2 ^ 64 =
        subst (λ (p : Piece). length (brought p.properties) < 2 ^ 64) (sym made.is) (omega (arith, bound, under)) in
        let old : (i : NodeId) → IfSome (placed_in r.tables.now i) (λ p. p.id.revision < r.number) =
        λ i. more_some (placed_in r.tables.now i) (λ p h. h.id) (all_older r right.tabled lines i) in
        let is_filed = filed r fs table changes long said_here same (for.earlier table) old o.node (right_path right.past right.block r.changes.now right.rules id.place o.node (in_block id.place o.node o.there)) (block_right.nodes o.node among)
        (no_kids id.place o.node o.there) (ids_of (take id.place pieces)) (known id.place) place o.next o.copy made.content made.content_is small small_properties
        (subst (λ (p : Piece). IsOfLast fs r.number (file_piece p)) (sym made.is) (last id.place piece is)) id rev in
        subst (λ q. IsPlaced fs tables id q (slice_get table.placed.items id.place)) (sym o.there)
        (subst (λ q. IsPlaced fs tables id (Some o.node) q) (sym (row_at id.place piece is))
        (subst (λ (p : Piece). IsPlaced fs tables id (Some o.node) (Some (placed_of p.node))) made.is is_filed))

    each : (id : NodeId) → id.rev ≡ r.number → IsPlaced fs tables id (slice_get (nodes_of r) id.place) (slice_get table.placed.items id.place)
    each id rev = by (slice_get_cases pieces id.place).1
      where
        by : ((piece : Piece) × (id.place < length pieces) × (slice_get pieces id.place ≡ Some piece) × (get_or pieces id.place piece ≡ piece))
            ⊎ ((length pieces ≤ id.place) × (slice_get pieces id.place ≡ None))
            → IsPlaced fs tables id (slice_get (nodes_of r) id.place) (slice_get table.placed.items id.place)
        by (inl found) = one id found.0 rev found.2
        by (inr past) =
            let no_row : slice_get table.placed.items id.place ≡ None =
            ap (λ (l : List Placed). slice_get l id.place) (table_rows pieces table rows) ∙ slice_get-map (λ (p : Piece). placed_of p.node) pieces id.place
            ∙ ap (option_map (λ (p : Piece). placed_of p.node)) past.1 in
            subst (λ q. IsPlaced fs tables id q (slice_get table.placed.items id.place))
            (sym (slice_get_past (nodes_of r) id.place (omega (arith, past.0, many))))
            (subst (λ q. IsPlaced fs tables id None q) (sym no_row) tt)

    -- ---- it can be read

    abbrev IsKnown : FileId → Type 0
    IsKnown id = IsTabled r.tables.now id ⊎ IsOneOf (map file_piece (reverse pieces)) id

    known_here : (k : ℕ) (id : NodeId) (file : FileId) → file_id r (ids_of (take k pieces)) id ≡ Some file → IsKnown file
    known_here k id file is = by (id.rev == r.number) refl is
      where
        placed : (n : Option NodeRev) (p : Placed) → placed_in r.tables.now id ≡ Some p → IsPlaced fs tables id n (Some p) → IsTabled r.tables.now p.id
        placed None p at is_placed = absurd is_placed
        placed (Some n) p at is_placed = tabled_at r fs tables (for.earlier table) id p at is_placed.revision

        earlier : (o : Option Placed) → placed_in r.tables.now id ≡ o → option_map (λ p. p.id) o ≡ Some file → IsKnown file
        earlier None at e = absurd (cc e)
        earlier (Some p) at e =
            let same : p.id ≡ file = cc e in
            inl (subst (IsTabled r.tables.now) same (placed (node_at r.nodes.now id) p at
            (subst (λ q. IsPlaced fs tables id (node_at r.nodes.now id) q) at (for.earlier table id (earlier_place r.tables.now id p at)))))

        by : (c : Bool) → (id.rev == r.number) ≡ c
            → (if c then slice_get (ids_of (take k pieces)) id.place else option_map (λ p. p.id) (placed_in r.tables.now id)) ≡ Some file → IsKnown file
        by true here e =
            let found = got k pieces id.place file e in
            let at : slice_get (map file_piece (reverse pieces)) (length pieces - 1 - id.place) ≡ Some (file_piece found.0) =
            slice_get-map file_piece (reverse pieces) (length pieces - 1 - id.place) ∙ ap (option_map file_piece) (backwards pieces id.place found.0 found.1) in
            inr (length pieces - 1 - id.place, subst (λ (o : Option FilePiece). IsSomeAnd o (λ p. p.node.id ≡ file)) (sym at) found.2)
        by false other e = earlier (placed_in r.tables.now id) refl e

    one_readable : (k : ℕ) (piece : Piece) → slice_get pieces k ≡ Some piece → IsReadable fs r.tables.now IsKnown (file_piece piece)
    one_readable k piece is =
        let o = of k piece is in
        let made = o.made in
        let among : Contains (nodes_of r) o.node =
        subst (λ (n : NodeRev). Contains (nodes_of r) n) (get_or_from_slice_get (nodes_of r) k o.node o.node o.there)
        (All-contains_itself (nodes_of r) k o.node (slice_get_within (nodes_of r) k o.node o.there)) in
        let under = part_long pieces k piece is in
        let small : length (brought made.content.new) < 2 ^ 64 =
        subst (λ (p : Piece). length (brought p.text) < 2 ^ 64) (sym made.is) (omega (arith, bound, under)) in
        let small_properties : length (brought (properties_of o.node (made_from r o.node)).new) < 2 ^ 64 =
        subst (λ (p : Piece). length (brought p.properties) < 2 ^ 64) (sym made.is) (omega (arith, bound, under)) in
        subst (λ (p : Piece). IsReadable fs r.tables.now IsKnown (file_piece p)) made.is
        (readable r fs tables (for.earlier table) o.node (right_path right.past right.block r.changes.now right.rules k o.node (in_block k o.node o.there))
        (block_right.nodes o.node among) IsKnown (ids_of (take k pieces)) (known_here k) (known k) (length (pieces_bytes (take k pieces))) o.next o.copy
        made.content made.content_is small small_properties)

    each_readable : (k : ℕ) (said : FilePiece) → slice_get (map file_piece (reverse pieces)) k ≡ Some said → IsReadable fs r.tables.now IsKnown said
    each_readable k said is = by (slice_get (reverse pieces) k) refl (sym (slice_get-map file_piece (reverse pieces) k) ∙ is)
      where
        by : (o : Option Piece) → slice_get (reverse pieces) k ≡ o → option_map file_piece o ≡ Some said → IsReadable fs r.tables.now IsKnown said
        by None at e = absurd (cc e)
        by (Some piece) at e =
            let same : file_piece piece ≡ said = cc e in
            subst (λ (p : FilePiece). IsReadable fs r.tables.now IsKnown p) same (one_readable (length pieces - 1 - k) piece (forwards pieces k piece at))

    root_some : (o : Option FileId) → IsAt tables (Some right.block.root) o → IsSome o
    root_some None at = absurd at
    root_some (Some id) at = refl

    pub are_readable : AreReadable fs r.tables.now (map file_piece (reverse pieces))
    are_readable = record {
      root = root_some (first_id (map file_piece (reverse pieces))) root_at;
      nodes = λ k d lt. each_readable k (get_or (map file_piece (reverse pieces)) k d) (slice_get-get_or (map file_piece (reverse pieces)) k d lt);
    }

    pub are_new : AreNew fs r.tables.now right.block table (map file_piece (reverse pieces))
    are_new = record {
      nodes = λ id rev. subst (λ (l : List NodeRev). IsPlaced fs tables id (slice_get l id.place) (slice_get table.placed.items id.place)) nodes_are
          (each id (rev ∙ sym right.tabled));
      root = root_at;
    }

-- what is read of a file that was laid out is the block
pub tabled_again : (r : Revision) (ids : Option NextIds) (file : List ℕ) (after : Option NextIds) (table : Table) (files : RevisionBytes) (blocks : List Block)
    (block : Block) (lists : List ChangeMap) (list : ChangeMap) → IsRightRevision r → AreEarlierLines r.tables.now → RevisionFits r ids → IsRightBlock r
    → (laid : IsLaidOut r ids file after) → length file < 2 ^ 64 → HasRows (map file_piece (reverse laid.pieces)) table
    → AreTabled files blocks r.tables.now lists → blocks_of r.nodes.now ≡ blocks ++ block ∷ [] → entries list ≡ r.changes.now
    → AreTabled (files ++ file ∷ []) (blocks ++ block ∷ []) (r.tables.now ++ table ∷ []) (lists ++ list ∷ [])
tabled_again r ids file after table files blocks block lists list right lines facts block_right laid small rows all are listed =
    let whole : length (file_bytes laid.pieces laid.changes laid.root.offset) < 2 ^ 64 = subst (λ (f : List ℕ). length f < 2 ^ 64) laid.file_is small in
    let bound = file_bound laid.pieces laid.changes laid.root.offset whole in
    let pieces : List FilePiece = map file_piece (reverse laid.pieces) in
    let read : revision_of (length r.tables.now) file ≡ Ok (pieces, laid.changes) =
    ap (λ n. revision_of n file) (sym right.tabled) ∙ read_again r ids file after right lines facts laid small in
    let said = said_again r (ids_of laid.pieces) laid.changes list block_right.changes laid.changes_are listed in
    let here : slice_get (blocks_of r.nodes.now) r.number ≡ Some block =
    ap (λ (l : List Block). slice_get l r.number) are ∙ ap (slice_get (blocks ++ block ∷ [])) (right.tabled ∙ all.tabled) ∙ last_place blocks block in
    let twice : Some right.block ≡ Some block =
    sym (block_at r ids laid.pieces right lines facts laid.pieces_are bound block_right table rows) ∙ here in
    let same : right.block ≡ block = cc twice in
    tabled_read files blocks r.tables.now lists all file r.nodes.now (block ∷ []) are pieces laid.changes (entries list) block table list read said refl rows
    (λ fs for. subst (λ (b : Block). AreNew fs r.tables.now b table pieces) same
    (are_new r ids laid.pieces right lines facts laid.pieces_are bound block_right table rows fs (entries list) listed for))

-- and it can be read behind the others
pub readable_again : (r : Revision) (ids : Option NextIds) (file : List ℕ) (after : Option NextIds) (files : RevisionBytes) (blocks : List Block)
    (block : Block) (lists : List ChangeMap) (list : ChangeMap) (table : Table) → IsRightRevision r → AreEarlierLines r.tables.now → RevisionFits r ids → IsRightBlock r
    → (laid : IsLaidOut r ids file after) → length file < 2 ^ 64 → HasRows (map file_piece (reverse laid.pieces)) table
    → AreTabled files blocks r.tables.now lists → blocks_of r.nodes.now ≡ blocks ++ block ∷ [] → entries list ≡ r.changes.now
    → IsReadableFile (files ++ file ∷ []) r.tables.now (map file_piece (reverse laid.pieces)) laid.changes
readable_again r ids file after files blocks block lists list table right lines facts block_right laid small rows all are listed =
    let whole : length (file_bytes laid.pieces laid.changes laid.root.offset) < 2 ^ 64 = subst (λ (f : List ℕ). length f < 2 ^ 64) laid.file_is small in
    let bound = file_bound laid.pieces laid.changes laid.root.offset whole in
    let pieces : List FilePiece = map file_piece (reverse laid.pieces) in
    let read : revision_of (length r.tables.now) file ≡ Ok (pieces, laid.changes) =
    ap (λ n. revision_of n file) (sym right.tabled) ∙ read_again r ids file after right lines facts laid small in
    let said = said_again r (ids_of laid.pieces) laid.changes list block_right.changes laid.changes_are listed in
    let for = for_all files blocks r.tables.now lists all file r.nodes.now (block ∷ []) are pieces laid.changes (entries list) read said in record {
      nodes = are_readable r ids laid.pieces right lines facts laid.pieces_are bound block_right table rows (files ++ file ∷ []) (entries list) listed for;
      changes_are = ap is_some said;
    }
