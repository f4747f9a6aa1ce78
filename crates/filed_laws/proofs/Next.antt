-- What the table of a written revision keeps, and the ids that come next after it.
use Rattle.std.proofs.Common.{◌≡◌, ◌<◌, ◌≤◌, ◌^◌, ℕ, zero, suc, List, [], ◌∷◌, ◌++◌, length, map, reverse, Option, Some, None, refl, sym, ap, subst, ◌∙◌, arith}
use Rattle.std.proofs.{lemmas.List.{map-append, reverse-append}, lemmas.Simd.map-map}
use Rattle.std.specs.{Prelude.{IfSome, option_and_then, slice_get}, Arc.arc_value}
use Rattle.noderevs.specs.{declared.node_rev.NodeId.NodeId, declared.node_rev.NodeRev.NodeRev}
use Rattle.fsfs_nodes.specs.{declared.current.NextIds.NextIds, Fits.{NodeFits, PlaceFits}, declared.node.FileNode.FileNode}
use Rattle.fsfs_text.specs.{declared.place.Place.Place, declared.representation.Representation.Representation}
use Rattle.fsfs.specs.{declared.piece.FilePiece.FilePiece, Files.{Piece, PiecesFit, named_line}, Whole.file_piece}
use Rattle.filed_trees.specs.{Tables.{HasRows, copyroot_of, placed_in, placed_of}, declared.placed.Placed.Placed, declared.table.Table.Table}
use Rattle.filed_writing.specs.{declared.counter.Counter.Counter, declared.revision.Revision.Revision}
use Rattle.filed_writing.specs.Layout.{comes, copies_here, ids_here, made_from, next_after, next_after_all, nodes_of, pieces_here}
use Rattle.filed_writing.specs.Pieces.{Brings, Copy, counter_in, ids_after, ids_of, properties_of}
use Rattle.filed_laws.specs.{Earlier.{AreEarlierLines, NamesUpTo}, Fitting.{NextFit, PlacedFits, TablesFit}}
use Rattle.filed_laws.proofs.{Coming.{content_kept, from_tables, properties_are_kept}, Copies.{CounterFits, first_fits, later_fits}}
use Rattle.filed_laws.proofs.{Entering.{of_node, piece_fits}, Made.{IsMade, here_made}, Older.{IsOlder, all_older}}
use Rattle.filed_laws.proofs.Options.{each_some, more_some, of_some, then_some}

-- ---- lines name revisions up to this one

line_up : (n offset : ℕ) (new : Option (List ℕ)) (kept : Option Representation) → IfSome kept (λ line. line.revision ≤ n)
    → IfSome (named_line n offset new kept) (λ line. line.revision ≤ n)
line_up n offset None kept up = up
line_up n offset (Some body) kept up = omega arith

one_up : (r : Revision) → ((id : NodeId) → IfSome (placed_in r.tables.now id) (IsOlder r.number))
    → (front : List Piece) (node : NodeRev) (next : Counter) (copy : Copy) (piece : Piece) → IsMade r front node (comes r node next) copy piece
    → NamesUpTo r.number (placed_of piece.node)
one_up r older front node next copy piece made =
    let Up : Representation → Type 0 = λ line. line.revision ≤ r.number in
    let before = from_tables (IsOlder r.number) r node older in
    let text : IfSome made.content.kept Up =
    of_some (λ (b : Brings). IfSome b.kept Up) _ made.content made.content_is
    (content_kept Up r (ids_of front) node (made_from r node) (arc_value node.content)
    (more_some (made_from r node) (λ b is. more_some b.1.text (λ line lt. omega (arith, lt)) is.text) before)) in
    let properties : IfSome (properties_of node (made_from r node)).kept Up =
    properties_are_kept Up node (made_from r node) (more_some (made_from r node) (λ b is. more_some b.1.properties (λ line lt. omega (arith, lt)) is.properties) before) in
    subst (λ (p : Piece). NamesUpTo r.number (placed_of p.node)) made.is (record {
      id = omega arith;
      text = line_up r.number _ made.content.new made.content.kept text;
      properties = line_up r.number _ _ _ properties;
    })

-- ---- and can be written

root_fits : (own : Place) (line : Option Place) → PlaceFits own → IfSome line PlaceFits → PlaceFits (copyroot_of own line)
root_fits own None here fits = here
root_fits own (Some place) here fits = fits

pub placed_fits : (node : FileNode) → NodeFits node → PlacedFits (placed_of node)
placed_fits node fits = record {
  id = fits.id;
  text = fits.text;
  properties = fits.properties;
  copyroot = root_fits (record { revision = node.id.revision; path = node.path }) node.copyroot (record { revision = fits.id.revision; path = fits.path }) fits.copyroot;
}

-- ---- rows

map_back : {A B : Type 0} (f : A → B) (xs : List A) → reverse (map f (reverse xs)) ≡ map f xs
map_back f [] = refl
map_back {A} {B} f (x ∷ xs) =
    ap (λ (l : List A). reverse (map f l)) (reverse-append (x ∷ []) xs)
    ∙ (ap (λ (l : List B). reverse l) (map-append f (reverse xs) (x ∷ []))
    ∙ (reverse-append (map f (reverse xs)) (f x ∷ []) ∙ ap (λ (l : List B). f x ∷ l) (map_back f xs)))

rows_are : (pieces : List Piece) (table : Table) → HasRows (map file_piece (reverse pieces)) table
    → table.placed.items ≡ map (λ piece. placed_of piece.node) pieces
rows_are pieces table rows =
    rows ∙ (ap (λ (l : List FilePiece). map (λ piece. placed_of piece.node) l) (map_back file_piece pieces) ∙ map-map (λ (piece : FilePiece). placed_of piece.node) file_piece pieces)

row_of : (P : Placed → Type 0) (pieces : List Piece) → ((k : ℕ) (piece : Piece) → slice_get pieces k ≡ Some piece → P (placed_of piece.node))
    → (place : ℕ) → IfSome (slice_get (map (λ (piece : Piece). placed_of piece.node) pieces) place) P
row_of P [] each place = tt
row_of P (piece ∷ pieces) each zero = each 0 piece refl
row_of P (piece ∷ pieces) each (suc place) = row_of P pieces (λ k p is. each (suc k) p is) place

table_more : (Q : ℕ → Table → Type 0) (tables : List Table) (table : Table) → ((n : ℕ) → IfSome (slice_get tables n) (Q n)) → Q (length tables) table
    → (n : ℕ) → IfSome (slice_get (tables ++ table ∷ []) n) (Q n)
table_more Q [] table each last zero = last
table_more Q [] table each last (suc n) = tt
table_more Q (first ∷ tables) table each last zero = each 0
table_more Q (first ∷ tables) table each last (suc n) = table_more (λ m. Q (suc m)) tables table (λ m. each (suc m)) last n

-- what holds of all that tables keep holds with the rows of one more
pub placed_more : (P : ℕ → Placed → Type 0) (tables : List Table) (table : Table) → ((id : NodeId) → IfSome (placed_in tables id) (P id.rev))
    → ((place : ℕ) → IfSome (slice_get table.placed.items place) (P (length tables)))
    → (id : NodeId) → IfSome (placed_in (tables ++ table ∷ []) id) (P id.rev)
placed_more P tables table each rows id =
    let Rows : ℕ → Table → Type 0 = λ n t. (place : ℕ) → IfSome (slice_get t.placed.items place) (P n) in
    let before : (n : ℕ) → IfSome (slice_get tables n) (Rows n) =
    λ n. each_some (Rows n) (slice_get tables n) (λ t is place.
    subst (λ (o : Option Table). IfSome (option_and_then (λ x. slice_get x.placed.items place) o) (P n)) is (each (record { rev = n; place = place }))) in
    then_some (P id.rev) (λ t. slice_get t.placed.items id.place) (slice_get (tables ++ table ∷ []) id.rev)
    (λ t is. of_some (Rows id.rev) (slice_get (tables ++ table ∷ []) id.rev) t is (table_more Rows tables table before rows id.rev) id.place)

module _ (r : Revision) (ids : Option NextIds) (pieces : List Piece) (e : pieces_here r ids ≡ Some pieces) (table : Table) (rows : HasRows (map file_piece (reverse pieces)) table) where
  with_rows : (P : Placed → Type 0) → ((k : ℕ) (piece : Piece) → slice_get pieces k ≡ Some piece → P (placed_of piece.node)) → (place : ℕ)
      → IfSome (slice_get table.placed.items place) P
  with_rows P each place = subst (λ (l : List Placed). IfSome (slice_get l place) P) (sym (rows_are pieces table rows)) (row_of P pieces each place)

  pub next_earlier : r.number ≡ length r.tables.now → AreEarlierLines r.tables.now → AreEarlierLines (r.tables.now ++ table ∷ [])
  next_earlier number earlier =
      placed_more NamesUpTo r.tables.now table earlier
      (subst (λ (n : ℕ). (place : ℕ) → IfSome (slice_get table.placed.items place) (NamesUpTo n)) number (with_rows (NamesUpTo r.number) (λ k piece is.
      let o = of_node r [] (nodes_of r) (counter_in ids r.number) (copies_here r ids) pieces k piece (here_made r ids pieces e) is in
      one_up r (all_older r number earlier) _ o.node o.next o.copy piece o.made)))

  pub next_tables_fit : TablesFit r.tables.now → PiecesFit pieces → TablesFit (r.tables.now ++ table ∷ [])
  next_tables_fit tables fits =
      placed_more (λ n. PlacedFits) r.tables.now table tables (with_rows PlacedFits (λ k piece is. placed_fits piece.node (piece_fits pieces k piece fits is)))

-- ---- the ids that come next

all_later : (r : Revision) (nodes : List NodeRev) (next : Counter) → CounterFits next → CounterFits (next_after_all r nodes next)
all_later r [] next fits = fits
all_later r (node ∷ nodes) next fits = all_later r nodes (next_after r node next) (later_fits r node next fits)

after_fits : (ids : Option NextIds) (next : Counter) → CounterFits next → IfSome (ids_after ids next) NextFit
after_fits None next fits = tt
after_fits (Some ids) next fits = record { node = fits.node; copy = fits.copy }

pub next_ids_fit : (r : Revision) (ids : Option NextIds) → r.number < 2 ^ 32 → IfSome ids NextFit → IfSome (ids_here r ids) NextFit
next_ids_fit r ids small fits =
    let next = counter_in ids r.number in
    after_fits ids (next_after_all r (nodes_of r) next) (all_later r (nodes_of r) next (first_fits ids r.number small fits))
