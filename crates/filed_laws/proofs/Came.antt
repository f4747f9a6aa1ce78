-- What comes with each node revision, and what its entries name.
use Rattle.std.proofs.Common.{◌≡◌, ◌<◌, ◌^◌, ◌⊎◌, inl, inr, ◌==◌, ◌+◌, ◌≤◌, ℕ, zero, suc, Bool, true, false, List, [], ◌∷◌, ◌++◌, length, take, Option, Some}
use Rattle.std.proofs.{Common.{None, Ok, refl, sym, ap, subst, ◌∙◌, arith, if◌then◌else◌}, lemmas.Bool.eqb-true, lemmas.List.length-append}
use Rattle.std.specs.{Arc.arc_value, Cmp.Lexicographic.pointwise, FinMap.entries, Prelude.{option_and_then, option_map, slice_get}}
use Rattle.repo_api.specs.declared.entry.Content.{Content}
use Rattle.repo_api.specs.declared.entry.Content.TheVariants as contents
use Rattle.noderevs.specs.{Held.{blocks_of, node_at}, declared.node_rev.Block.Block, declared.node_rev.NodeId.NodeId, declared.node_rev.NodeRev.NodeRev}
use Rattle.noderevs.proofs.Pushing.{last_place}
use Rattle.fsfs_text.specs.{Dumps.dump, Fits.IdFits, declared.id.FileId.FileId}
use Rattle.fsfs_nodes.specs.{declared.current.NextIds.NextIds, Entries.entry_pairs, Nodes.node_bytes, declared.entries.DirectoryEntry.DirectoryEntry}
use Rattle.fsfs_nodes.specs.declared.entries.EntryKind.TheVariants.{Directory}
use Rattle.fsfs.specs.{Files.{Piece, brought, piece_bytes, pieces_bytes}, Pieces.{entries_in, entries_of_kind}, Whole.{EntriesFit, file_piece}}
use Rattle.fsfs.proofs.Entries.{entries_again}
use Rattle.filed_trees.specs.{Readable.AreOnce, Tables.placed_in, declared.placed.Placed.Placed}
use Rattle.filed_writing.specs.Layout as layout
use Rattle.filed_writing.specs.Layout.{copies_here, file_id, made_from, nodes_in, nodes_of, pieces_here}
use Rattle.filed_writing.specs.{Pieces.{Before, Brings, brings, counter_in, dump_in, ids_of, kind_of, some_bytes}, declared.revision.Revision.Revision}
use Rattle.filed_laws.specs.{Earlier.AreEarlierLines, Fitting.RevisionFits, Right.IsRightRevision}
use Rattle.filed_laws.proofs.{Entering.{HasEntries, OfNode, directory, of_node, piece_fits}, Fitting.body_long, Made.here_made, Options.of_some}
use Rattle.filed_laws.proofs.JudgedListed.{AreListed, all_listed, once}
use Rattle.filed_laws.proofs.Whole as again

-- ---- what comes

abbrev chosen : Bool → List ℕ → Before → Brings
chosen same bytes before = if same then record { new = None; kept = before.1 } else record { new = some_bytes bytes; kept = None }

chosen_new : (same : Bool) (bytes : List ℕ) (before : Before) → ((chosen same bytes before).new ≡ None) ⊎ ((chosen same bytes before).new ≡ some_bytes bytes)
chosen_new true bytes before = inl refl
chosen_new false bytes before = inr refl

-- what is brought, if anything, is the bytes
pub brings_new : (bytes : List ℕ) (before : Option Before) → ((brings bytes before).new ≡ None) ⊎ ((brings bytes before).new ≡ some_bytes bytes)
brings_new bytes None = inr refl
brings_new bytes (Some before) = chosen_new (pointwise ◌==◌ before.0 bytes) bytes before

dumped : (n : ℕ) (es : List DirectoryEntry) → (some_bytes (dump_in n es) ≡ None) ⊎ (some_bytes (dump_in n es) ≡ Some (dump (entry_pairs es)))
dumped zero [] = inr refl
dumped zero (e ∷ es) = inr refl
dumped (suc n) [] = inl refl
dumped (suc n) (e ∷ es) = inr refl

none_or_dump : (n : ℕ) (es : List DirectoryEntry) (before : Option Before)
    → ((brings (dump_in n es) before).new ≡ None) ⊎ ((brings (dump_in n es) before).new ≡ Some (dump (entry_pairs es)))
none_or_dump n es before = by (brings_new (dump_in n es) before) (dumped n es)
  where
    by : ((brings (dump_in n es) before).new ≡ None) ⊎ ((brings (dump_in n es) before).new ≡ some_bytes (dump_in n es))
        → (some_bytes (dump_in n es) ≡ None) ⊎ (some_bytes (dump_in n es) ≡ Some (dump (entry_pairs es)))
        → ((brings (dump_in n es) before).new ≡ None) ⊎ ((brings (dump_in n es) before).new ≡ Some (dump (entry_pairs es)))
    by (inl none) d = inl none
    by (inr new) (inl none) = inl (new ∙ none)
    by (inr new) (inr some) = inr (new ∙ some)

-- what comes with one of them is shorter than all
part_long : (pieces : List Piece) (k : ℕ) (piece : Piece) → slice_get pieces k ≡ Some piece
    → length (brought piece.text) + length (brought piece.properties) ≤ length (pieces_bytes pieces)
part_long [] k piece is = absurd (cc is)
part_long (first ∷ pieces) zero piece is =
    let same : first ≡ piece = cc is in
    subst (λ (p : Piece). length (brought p.text) + length (brought p.properties) ≤ length (pieces_bytes (first ∷ pieces))) same
    (omega (
      arith,
      length-append (piece_bytes first) (pieces_bytes pieces),
      length-append (brought first.text) (brought first.properties ++ node_bytes first.node),
      length-append (brought first.properties) (node_bytes first.node),
    ))
part_long (first ∷ pieces) (suc k) piece is =
    omega (arith, part_long pieces k piece is, length-append (piece_bytes first) (pieces_bytes pieces))

-- ---- the ids that entries have

-- that of a node revision of this revision
pub record IsNew (r : Revision) (pieces : List Piece) (kid : NodeId) (id : FileId) : Type 0 where
  pub here : kid.rev ≡ r.number
  pub piece : Piece
  pub there : slice_get pieces kid.place ≡ Some piece
  pub is : piece.node.id ≡ id

-- that of one before
pub record IsOld (r : Revision) (kid : NodeId) (id : FileId) : Type 0 where
  pub placed : Placed
  pub there : placed_in r.tables.now kid ≡ Some placed
  pub is : placed.id ≡ id

-- an id that was written is that of one in front
got : (k : ℕ) (pieces : List Piece) (place : ℕ) (id : FileId) → slice_get (ids_of (take k pieces)) place ≡ Some id
    → (piece : Piece) × (slice_get pieces place ≡ Some piece) × (piece.node.id ≡ id)
got zero pieces place id is = absurd (cc is)
got (suc k) [] place id is = absurd (cc is)
got (suc k) (piece ∷ pieces) zero id is = (piece, refl, cc is)
got (suc k) (piece ∷ pieces) (suc place) id is = got k pieces place id is

pub new_or_old : (r : Revision) (pieces : List Piece) (k : ℕ) (kid : NodeId) (id : FileId) → file_id r (ids_of (take k pieces)) kid ≡ Some id
    → IsNew r pieces kid id ⊎ IsOld r kid id
new_or_old r pieces k kid id is = by (kid.rev == r.number) refl is
  where
    old : (o : Option Placed) → placed_in r.tables.now kid ≡ o → option_map (λ p. p.id) o ≡ Some id → IsOld r kid id
    old None there e = absurd (cc e)
    old (Some placed) there e = record { placed = placed; there = there; is = cc e }

    by : (c : Bool) → (kid.rev == r.number) ≡ c
        → (if c then slice_get (ids_of (take k pieces)) kid.place else option_map (λ p. p.id) (placed_in r.tables.now kid)) ≡ Some id
        → IsNew r pieces kid id ⊎ IsOld r kid id
    by true here e =
        let found = got k pieces kid.place id e in
        inl (record { here = eqb-true kid.rev r.number here; piece = found.0; there = found.1; is = found.2 })
    by false other e = inr (old (placed_in r.tables.now kid) refl e)

-- ---- the entries that come

-- the entries that are read of a node revision
pub record Reads (r : Revision) (pieces : List Piece) (k : ℕ) (piece : Piece) : Type 0 where
  pub entries : List DirectoryEntry
  pub read : entries_in (file_piece piece) ≡ Ok entries
  pub once : AreOnce entries
  pub listed : AreListed r (ids_of (take k pieces)) entries

none_once : AreOnce []
none_once j k a b at_a at_b same = absurd (cc at_a)

module _ (r : Revision) (ids : Option NextIds) (pieces : List Piece) (right : IsRightRevision r) (lines : AreEarlierLines r.tables.now) (facts : RevisionFits r ids)
    (e : pieces_here r ids ≡ Some pieces) (bound : length (pieces_bytes pieces) < 2 ^ 64) where
  pub of : (k : ℕ) (piece : Piece) → slice_get pieces k ≡ Some piece → OfNode r [] (nodes_of r) k pieces piece
  of k piece is = of_node r [] (nodes_of r) (counter_in ids r.number) (copies_here r ids) pieces k piece (here_made r ids pieces e) is

  pub block_at : slice_get (blocks_of r.nodes.now) r.number ≡ Some right.block
  block_at = ap (λ (l : List Block). slice_get l r.number) right.nodes
      ∙ ap (slice_get (blocks_of right.past ++ right.block ∷ [])) right.number ∙ last_place (blocks_of right.past) right.block

  pub in_block : (k : ℕ) (node : NodeRev) → slice_get (nodes_of r) k ≡ Some node → slice_get right.block.nodes.items k ≡ Some node
  in_block k node there = ap (λ (l : List NodeRev). slice_get l k) (sym (ap nodes_in block_at)) ∙ there

  -- what is at an id of this revision
  pub node_here : (kid : NodeId) → kid.rev ≡ r.number → node_at r.nodes.now kid ≡ slice_get right.block.nodes.items kid.place
  node_here kid here =
      ap (option_and_then (λ (b : Block). slice_get b.nodes.items kid.place)) (ap (slice_get (blocks_of r.nodes.now)) here ∙ block_at)

  pub short : (k : ℕ) (piece : Piece) → slice_get pieces k ≡ Some piece → length (brought piece.text) + length (brought piece.properties) < 2 ^ 64
  short k piece is = omega (arith, bound, part_long pieces k piece is)

  id_fits : (kid : NodeId) (id : FileId) → IsNew r pieces kid id ⊎ IsOld r kid id → IdFits id
  id_fits kid id (inl new) =
      subst IdFits new.is (piece_fits pieces kid.place new.piece (again.fit r ids pieces right lines facts e bound) new.there).id
  id_fits kid id (inr old) = subst IdFits old.is (of_some _ (placed_in r.tables.now kid) old.placed old.there (facts.tables kid)).id

  entries_fit : (k : ℕ) (es : List DirectoryEntry) → AreListed r (ids_of (take k pieces)) es → EntriesFit es
  entries_fit k [] listed = tt
  entries_fit k (entry ∷ es) listed =
      (id_fits listed.0.kid entry.id (new_or_old r pieces k listed.0.kid entry.id listed.0.id), entries_fit k es listed.1)

  abbrev Found : ℕ → Content → Brings → Type 0
  Found k content content_new = (es : List DirectoryEntry) × (entries_of_kind (kind_of content) content_new.new ≡ Ok es) × AreOnce es
      × AreListed r (ids_of (take k pieces)) es

  reads_by : (k : ℕ) (node : NodeRev) (predecessor : Option (NodeRev × Placed)) (content_new : Brings) (content : Content)
      → length (brought content_new.new) < 2 ^ 64 → layout.content_by r (ids_of (take k pieces)) node predecessor content ≡ Some content_new
      → Found k content content_new
  reads_by k node predecessor content_new (contents.File text) small is = ([], refl, none_once, tt)
  reads_by k node predecessor content_new contents.Directory small is = by (none_or_dump r.number es has.before)
    where
      written : List FileId
      written = ids_of (take k pieces)

      has : HasEntries r written node predecessor content_new
      has = directory r written node predecessor content_new is

      es : List DirectoryEntry
      es = has.entries

      listed : AreListed r written es
      listed = all_listed r written (entries node.kids) es has.listed

      new_is : (brings (dump_in r.number es) has.before).new ≡ content_new.new
      new_is = ap (λ (b : Brings). b.new) has.brings_is

      by : ((brings (dump_in r.number es) has.before).new ≡ None) ⊎ ((brings (dump_in r.number es) has.before).new ≡ Some (dump (entry_pairs es)))
          → Found k contents.Directory content_new
      by (inl none) = ([], ap (λ (o : Option (List ℕ)). entries_of_kind Directory o) (sym new_is ∙ none), none_once, tt)
      by (inr some) =
          let new : content_new.new ≡ Some (dump (entry_pairs es)) = sym new_is ∙ some in
          let small_body = subst (λ (o : Option (List ℕ)). length (brought o) < 2 ^ 64) new small in
          let under : length (dump (entry_pairs es)) < 2 ^ 64 = omega (arith, small_body, body_long (dump (entry_pairs es))) in (
            es,
            ap (λ (o : Option (List ℕ)). entries_of_kind Directory o) new ∙ entries_again es (entries_fit k es listed) under,
            once r written node.kids es has.listed,
            listed,
          )

  pub reads : (k : ℕ) (piece : Piece) → slice_get pieces k ≡ Some piece → Reads r pieces k piece
  reads k piece is =
      let o = of k piece is in
      let made = o.made in
      let small : length (brought made.content.new) < 2 ^ 64 =
      subst (λ (p : Piece). length (brought p.text) < 2 ^ 64) (sym made.is) (omega (arith, short k piece is)) in
      let found = reads_by k o.node (made_from r o.node) made.content (arc_value o.node.content) small made.content_is in
      subst (Reads r pieces k) made.is (record { entries = found.0; read = found.1; once = found.2; listed = found.3 })
