-- A file that is laid out is read again.
use Rattle.std.proofs.Common.{◌≡◌, ◌-◌, ◌<◌, ◌≤◌, ◌^◌, ◌⊎◌, inl, inr, ℕ, zero, suc, List, [], ◌∷◌, ◌++◌, length, map, reverse, take, get_or, Option, Some, None}
use Rattle.std.proofs.{Common.{Ok, is_some, refl, sym, ap, subst, ◌∙◌, arith}, lemmas.Bool.false≢true, lemmas.List.length-append}
use Rattle.std.proofs.lemmas.Option.{slice_get_cases, slice_get_within}
use Rattle.std.specs.{Prelude.{Contains, IfSome, slice_get}, Arc.arc_value}
use Rattle.repo_api.specs.declared.entry.Content.{Content}
use Rattle.repo_api.specs.declared.entry.Content.TheVariants as contents
use Rattle.noderevs.specs.{Held.blocks_of, declared.node_rev.Block.Block, declared.node_rev.NodeRev.NodeRev}
use Rattle.fsfs_nodes.specs.{declared.current.NextIds.NextIds, Nodes.node_bytes, Changes.changes_bytes, Trailers.trailer_bytes}
use Rattle.fsfs_nodes.specs.declared.change.FileChange.{FileChange}
use Rattle.fsfs_text.specs.declared.id.FileId.{FileId}
use Rattle.fsfs.specs.{Files.{ArePlaced, ChangesFit, Piece, PiecesFit, brought, file_bytes, piece_bytes, pieces_bytes}, Pieces.revision_of, Whole.file_piece}
use Rattle.fsfs.specs.Reached.{AreReached}
use Rattle.fsfs.proofs.Again.{file_again}
use Rattle.filed_writing.specs.{declared.revision.Revision.Revision, Layout.{IsLaidOut, comes, copies_here, nodes_in, nodes_of, pieces_here}}
use Rattle.filed_writing.specs.Pieces.{counter_in, ids_of}
use Rattle.filed_trees.specs.{Tables.HasRows, declared.table.Table.Table}
use Rattle.filed_laws.specs.{Earlier.AreEarlierLines, Fitting.{AreNamedNodes, NextFit, RevisionFits, TablesFit}, Right.IsRightRevision}
use Rattle.filed_laws.proofs.{Changing.changes_fit, Fitting.here_fit, Made.{IsMade, here_made, here_placed}, Older.{all_older, here_keep}}
use Rattle.filed_laws.proofs.{Entering.{NamesPlace, OfNode, as_many, leads_back, names_place, of_node}, Parents.{HasParent, named_nodes, parent}}
use Rattle.filed_laws.proofs.{Next.{next_earlier, next_ids_fit, next_tables_fit}, Reaching.{IsNamedFrom, Leads, all_reached}, Rising.{rising, same_first}}

-- ---- the nodes of the revision are those of the block

last_of : {X : Type 0} (xs : List X) (x : X) → slice_get (xs ++ x ∷ []) (length xs) ≡ Some x
last_of [] x = refl
last_of (y ∷ xs) x = last_of xs x

nodes_are : (r : Revision) (right : IsRightRevision r) → nodes_of r ≡ right.block.nodes.items
nodes_are r right =
    (λ i. nodes_in (slice_get (right.nodes i) (right.number i))) ∙ ap (λ (o : Option Block). nodes_in o) (last_of (blocks_of right.past) right.block)

pub all_named : (r : Revision) → IsRightRevision r → AreNamedNodes (nodes_of r)
all_named r right node among =
    named_nodes right.past right.block r.changes.now right.rules node (subst (λ (l : List NodeRev). Contains l node) (nodes_are r right) among)

-- ---- what comes with one of them is shorter than all

part_long : (pieces : List Piece) (k : ℕ) (piece : Piece) → slice_get pieces k ≡ Some piece → length (brought piece.text) ≤ length (pieces_bytes pieces)
part_long [] k piece is = absurd (cc is)
part_long (first ∷ pieces) zero piece is =
    let same : length (brought first.text) ≡ length (brought piece.text) = ap (λ (p : Piece). length (brought p.text)) (same_first first piece is) in
    omega (arith, same, length-append (piece_bytes first) (pieces_bytes pieces), length-append (brought first.text) (brought first.properties ++ node_bytes first.node))
part_long (first ∷ pieces) (suc k) piece is =
    omega (arith, part_long pieces k piece is, length-append (piece_bytes first) (pieces_bytes pieces))

ids_at : (pieces : List Piece) (k : ℕ) (id : FileId) → slice_get (ids_of pieces) k ≡ Some id
    → (piece : Piece) × (slice_get pieces k ≡ Some piece) × (piece.node.id ≡ id)
ids_at [] k id is = absurd (cc is)
ids_at (piece ∷ pieces) zero id is = (piece, refl, cc is)
ids_at (piece ∷ pieces) (suc k) id is = ids_at pieces k id is

same_node : (node other : NodeRev) → Some node ≡ Some other → node ≡ other
same_node node other e = cc e

there_at : (pieces : List Piece) (k : ℕ) → k < length pieces → (piece : Piece) × (slice_get pieces k ≡ Some piece)
there_at pieces k lt = by (slice_get_cases pieces k).1
  where
    by : ((piece : Piece) × (k < length pieces) × (slice_get pieces k ≡ Some piece) × (get_or pieces k piece ≡ piece)) ⊎ ((length pieces ≤ k) × (slice_get pieces k ≡ None))
        → (piece : Piece) × (slice_get pieces k ≡ Some piece)
    by (inl found) = (found.0, found.2)
    by (inr past) = absurd (omega (arith, lt, past.0))

-- ---- the root leads to each

module _ (r : Revision) (ids : Option NextIds) (pieces : List Piece) (right : IsRightRevision r) (earlier : AreEarlierLines r.tables.now) (facts : RevisionFits r ids)
    (e : pieces_here r ids ≡ Some pieces) (bound : length (pieces_bytes pieces) < 2 ^ 64) where
  placed : ArePlaced r.number 0 pieces
  placed = here_placed r ids pieces e

  pub fit : PiecesFit pieces
  fit = here_fit r ids pieces facts (all_named r right) e bound

  of : (k : ℕ) (piece : Piece) → slice_get pieces k ≡ Some piece → OfNode r [] (nodes_of r) k pieces piece
  of k piece is = of_node r [] (nodes_of r) (counter_in ids r.number) (copies_here r ids) pieces k piece (here_made r ids pieces e) is

  many : length pieces ≡ length (nodes_of r)
  many = as_many r [] (nodes_of r) (counter_in ids r.number) (copies_here r ids) pieces (here_made r ids pieces e)

  short : (k : ℕ) (piece : Piece) → slice_get pieces k ≡ Some piece → length (brought piece.text) < 2 ^ 64
  short k piece is = omega (arith, bound, part_long pieces k piece is)

  abbrev Parent : ℕ → Type 0
  Parent k = HasParent right.past right.block r.changes.now right.rules k

  leads : (k : ℕ) (piece : Piece) → slice_get pieces k ≡ Some piece → Leads r.number k pieces piece
  leads k piece is =
      let o = of k piece is in
      leads_back r pieces placed fit (all_older r right.tabled earlier) facts.tables k o.node o.next o.copy piece o.made (short k piece is)

  above : (k : ℕ) (piece : Piece) → slice_get pieces k ≡ Some piece → (right.block.root.place ≡ k) ⊎ Parent k
  above k piece is =
      let o = of k piece is in
      parent right.past right.block r.changes.now right.rules k o.node (ap (λ (l : List NodeRev). slice_get l k) (sym (nodes_are r right)) ∙ o.there)

  -- a node with an entry is a directory
  is_directory : (k : ℕ) (h : Parent k) → arc_value h.node.content ≡ contents.Directory
  is_directory k h = by (arc_value h.node.content) refl
    where
      by : (content : Content) → arc_value h.node.content ≡ content → arc_value h.node.content ≡ contents.Directory
      by contents.Directory is = is
      by (contents.File text) is =
          absurd (false≢true (sym (ap is_some (((right.rules.nodes h.place h.node h.there).file text is).no_entries h.name)) ∙ ap is_some h.is))

  abbrev Names : ℕ → ℕ → Piece → Type 0
  Names m k piece = NamesPlace r pieces placed fit (all_older r right.tabled earlier) facts.tables m k piece

  -- the node revision of the directory names it
  record Above (k : ℕ) : Type 0 where
    place : ℕ
    piece : Piece
    there : slice_get pieces place ≡ Some piece
    names : Names place k piece

  from_parent : (k : ℕ) → Parent k → Above k
  from_parent k h =
      let there : slice_get (nodes_of r) h.place ≡ Some h.node = ap (λ (l : List NodeRev). slice_get l h.place) (nodes_are r right) ∙ h.there in
      let found = there_at pieces h.place (omega (arith, many, slice_get_within (nodes_of r) h.place h.node there)) in
      let o = of h.place found.0 found.1 in
      let same : o.node ≡ h.node = same_node o.node h.node (sym o.there ∙ there) in
      let made : IsMade r (take h.place pieces) h.node (comes r h.node o.next) o.copy found.0 =
      subst (λ (n : NodeRev). IsMade r (take h.place pieces) n (comes r n o.next) o.copy found.0) same o.made in
      record {
        place = h.place;
        piece = found.0;
        there = found.1;
        names = names_place r pieces placed fit (all_older r right.tabled earlier) facts.tables h.place k h.node o.next o.copy found.0 h.name h.kid made
            (short h.place found.0 found.1) (is_directory k h) h.is (h.here ∙ sym right.number) h.at;
      }

  -- the last is the root of the block
  last_root : (k : ℕ) (last : Piece) → suc k ≡ length pieces → slice_get pieces k ≡ Some last → right.block.root.place ≡ k
  last_root k last end is = by (above k last is)
    where
      by : (right.block.root.place ≡ k) ⊎ Parent k → right.block.root.place ≡ k
      by (inl root) = root
      by (inr h) =
          let a = from_parent k h in
          absurd (omega (arith, end, a.names.before, slice_get_within pieces a.place a.piece a.there))

  named : (root : ℕ) (last : Piece) → suc root ≡ length pieces → slice_get pieces root ≡ Some last
      → (k : ℕ) (piece : Piece) → slice_get pieces k ≡ Some piece → (suc k ≡ length pieces) ⊎ IsNamedFrom r.number (suc k) pieces piece.node.id.offset
  named root last end at k piece is = by (above k piece is)
    where
      by : (right.block.root.place ≡ k) ⊎ Parent k → (suc k ≡ length pieces) ⊎ IsNamedFrom r.number (suc k) pieces piece.node.id.offset
      by (inl here) = inl (omega (arith, here, last_root root last end at, end))
      by (inr h) =
          let a = from_parent k h in
          inr (record {
            place = a.place;
            piece = a.piece;
            there = a.there;
            behind = omega (arith, a.names.before);
            names = a.names.names piece.node.id.offset piece is refl;
          })

  pub here_reached : (root : FileId) → slice_get (ids_of pieces) (length pieces - 1) ≡ Some root
      → AreReached r.number (λ offset. offset ≡ root.offset) (reverse pieces)
  here_reached root is =
      let found = ids_at pieces (length pieces - 1) root is in
      let end : suc (length pieces - 1) ≡ length pieces = omega (arith, slice_get_within pieces (length pieces - 1) found.0 found.1) in
      subst (λ (id : FileId). AreReached r.number (λ offset. offset ≡ id.offset) (reverse pieces)) found.2
      (all_reached r.number pieces (λ j k piece later at behind lt. rising r.number 0 pieces j k piece later placed at behind lt) leads
      (named (length pieces - 1) found.0 end found.1) (length pieces - 1) found.0 end found.1)

file_bound : (pieces : List Piece) (changes : List FileChange) (root : ℕ) → length (file_bytes pieces changes root) < 2 ^ 64
    → length (pieces_bytes pieces) < 2 ^ 64
file_bound pieces changes root whole =
    let trailer : List ℕ = trailer_bytes (record { root = root; changes = length (pieces_bytes pieces) }) in
    omega (arith, whole, length-append (pieces_bytes pieces ++ changes_bytes changes) trailer, length-append (pieces_bytes pieces) (changes_bytes changes))

pub read_again : (r : Revision) (ids : Option NextIds) (file : List ℕ) (after : Option NextIds) → IsRightRevision r → AreEarlierLines r.tables.now
    → RevisionFits r ids
    → (laid : IsLaidOut r ids file after) → length file < 2 ^ 64 → revision_of r.number file ≡ Ok (map file_piece (reverse laid.pieces), laid.changes)
read_again r ids file after right earlier facts laid small =
    let pieces = laid.pieces in
    let changes = laid.changes in
    let whole : length (file_bytes pieces changes laid.root.offset) < 2 ^ 64 = subst (λ (f : List ℕ). length f < 2 ^ 64) laid.file_is small in
    let bound : length (pieces_bytes pieces) < 2 ^ 64 = file_bound pieces changes laid.root.offset whole in
    let keep = here_keep r ids pieces right.tabled earlier laid.pieces_are in
    let reached = here_reached r ids pieces right earlier facts laid.pieces_are bound laid.root laid.root_is in
    let said : ChangesFit changes = changes_fit r (ids_of pieces) changes facts.changes laid.changes_are in
    ap (revision_of r.number) laid.file_is
    ∙ file_again r.number laid.root.offset pieces changes (here_placed r ids pieces laid.pieces_are) (fit r ids pieces right earlier facts laid.pieces_are bound) keep reached said whole

pub next_right : (r : Revision) (ids : Option NextIds) (file : List ℕ) (after : Option NextIds) (table : Table) → IsRightRevision r
    → AreEarlierLines r.tables.now → RevisionFits r ids
    → (laid : IsLaidOut r ids file after) → length file < 2 ^ 64 → HasRows (map file_piece (reverse laid.pieces)) table
    → AreEarlierLines (r.tables.now ++ table ∷ []) × TablesFit (r.tables.now ++ table ∷ []) × IfSome after NextFit
next_right r ids file after table right earlier facts laid small rows =
    let whole : length (file_bytes laid.pieces laid.changes laid.root.offset) < 2 ^ 64 = subst (λ (f : List ℕ). length f < 2 ^ 64) laid.file_is small in
    let bound : length (pieces_bytes laid.pieces) < 2 ^ 64 = file_bound laid.pieces laid.changes laid.root.offset whole in (
      next_earlier r ids laid.pieces laid.pieces_are table rows right.tabled earlier,
      next_tables_fit r ids laid.pieces laid.pieces_are table rows facts.tables (fit r ids laid.pieces right earlier facts laid.pieces_are bound),
      subst (λ (o : Option NextIds). IfSome o NextFit) (sym laid.after_is) (next_ids_fit r ids facts.number facts.next),
    )
