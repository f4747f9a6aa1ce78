-- The heights of nodes that are read: each entry of a directory is read before it.
use Rattle.std.proofs.Common.{◌≡◌, ◌==◌, ◌||◌, ◌&&◌, ◌<◌, ◌-◌, ℕ, zero, suc, Bool, true, false, List, [], ◌∷◌, ◌++◌, take, length, Option, Some, None}
use Rattle.std.proofs.{Common.{option_map, option_and_then, refl, sym, ap, subst, ◌∙◌, arith, ⊎_elim, if◌then◌else◌}, Math.Seq.take-append_seam}
use Rattle.std.proofs.{lemmas.Bool.{cases_eq, cases_lt, eqb-true, false≢true, ltb-true}, lemmas.List.take-append-le}
use Rattle.std.proofs.lemmas.Option.{none-some, same_Some, slice_get_within, get_or_from_slice_get}
use Rattle.std.specs.{Prelude.{Result, Ok, IfSome, IsSome, IsSomeAnd, is_some, nat_lt, slice_get}, Result.result_ok}
use Rattle.svnpath.specs.Paths.{Component, same_component}
use Rattle.repo_api.specs.States.{ChangeMap}
use Rattle.fsfs_text.specs.{declared.fault.FileFault.FileFault, declared.id.FileId.FileId, declared.representation.Representation.Representation}
use Rattle.noderevs.specs.{Heights.{AreHigh, IsHeight}, Held.{blocks_of, node_at}, Nodes.{kid_named, kid_of, Look, node_in, with_block}}
use Rattle.noderevs.specs.{declared.node_rev.Block.Block, declared.node_rev.NodeId.NodeId, declared.node_rev.NodeRev.NodeRev, declared.nodes.Nodes.Nodes}
use Rattle.noderevs.proofs.Pushing.{last_place, next_is_free, other_place}
use Rattle.fsfs_nodes.specs.{Entries.entries_of, declared.entries.DirectoryEntry.DirectoryEntry, declared.entries.EntryKind.EntryKind}
use Rattle.fsfs_nodes.specs.{declared.entries.EntryKind.TheVariants.{File, Directory}, declared.node.FileNode.FileNode, declared.change.FileChange.FileChange}
use Rattle.fsfs.specs.Pieces as reading
use Rattle.fsfs.specs.{Pieces.{is_before, revision_of}, declared.piece.FilePiece.FilePiece}
use Rattle.filed_trees.specs.Comparing.{HaveHeights, IsOfLast, IsHere}
use Rattle.filed_trees.specs.Pieces.{RevisionBytes, body_at_line, entries_at, entries_by, entries_in, entry_named, piece_in}
use Rattle.filed_trees.specs.Readable.{AreReadable, IsReadable, IsTabled, kind_before, text_before, IsKept}
use Rattle.filed_trees.specs.{Tables.{AreTabled, HasRows, IsAt, IsFiled, IsPlaced, placed_in}, declared.placed.Placed.Placed, declared.table.Table.Table}
use Rattle.filed_trees.proofs.{Growing.{filed_more_files, last_file, last_revision}, OneRepository.{of_revision, piece_at_place, rising}}
use Rattle.filed_trees.proofs.{Read.{LieBefore, entries_lie_before, pieces_of_last}, Rows.forwards}

-- ---- one node more

pub heights_more : (look : Look) (rev : ℕ) (nodes : List NodeRev) (node : NodeRev) → HaveHeights look rev nodes
    → IsHeight (with_block look rev nodes) node.kids node.height → HaveHeights look rev (nodes ++ node ∷ [])
heights_more look rev nodes node have height k x at = ⊎_elim
    (λ e.
    let same : node ≡ x = same_Some node x (sym (last_place nodes node) ∙ ap (slice_get (nodes ++ node ∷ [])) (sym e) ∙ at) in
    let before : take k (nodes ++ node ∷ []) ≡ nodes = ap (λ n. take n (nodes ++ node ∷ [])) e ∙ take-append_seam nodes (node ∷ []) in
    subst (λ ns. IsHeight (with_block look rev ns) x.kids x.height) (sym before)
    (subst (λ (y : NodeRev). IsHeight (with_block look rev nodes) y.kids y.height) same height))
    (λ ne.
    let old : slice_get nodes k ≡ Some x = sym (other_place nodes node k ne) ∙ at in
    let within = slice_get_within nodes k x old in
    subst (λ ns. IsHeight (with_block look rev ns) x.kids x.height) (sym (take-append-le k nodes (node ∷ []) (omega (arith, within)))) (have k x old))
    (cases_eq k (length nodes))

get_front : {X : Type 0} (xs : List X) (k i : ℕ) → i < k → slice_get (take k xs) i ≡ slice_get xs i
get_front xs zero i lt = absurd (omega (arith, lt))
get_front [] (suc k) i lt = refl
get_front (x ∷ xs) (suc k) zero lt = refl
get_front (x ∷ xs) (suc k) (suc i) lt = get_front xs k i (omega (arith, lt))

-- ---- entries lie before

before_offset : (revision offset : ℕ) (id : FileId) → is_before revision offset id ≡ true → id.revision ≡ revision → id.offset < offset
before_offset revision offset id is of = by (nat_lt id.revision revision) refl is
  where
    by : (b : Bool) → nat_lt id.revision revision ≡ b → (b || ((id.revision == revision) && nat_lt id.offset offset)) ≡ true → id.offset < offset
    by true less e = let lt = ltb-true id.revision revision less in absurd (omega (arith, lt, of))
    by false less e = rest (id.revision == revision) e
      where
        rest : (c : Bool) → (c && nat_lt id.offset offset) ≡ true → id.offset < offset
        rest true e = ltb-true id.offset offset e
        rest false e = absurd (false≢true e)

named_before : (revision offset : ℕ) (name : Component) (id : FileId) (entries : List DirectoryEntry) → LieBefore revision offset entries
    → entry_named name entries ≡ Some id → is_before revision offset id ≡ true
named_before revision offset name id [] lie is = absurd (none-some id is)
named_before revision offset name id (entry ∷ entries) lie is = by (same_component entry.name name) is (named_before revision offset name id entries lie.1)
  where
    by : (b : Bool) → (if b then Some entry.id else entry_named name entries) ≡ Some id
        → (entry_named name entries ≡ Some id → is_before revision offset id ≡ true) → is_before revision offset id ≡ true
    by true e rest = subst (λ (i : FileId). is_before revision offset i ≡ true) (same_Some entry.id id e) lie.0
    by false e rest = rest e

-- what is read is what was read
read_again : (r : Result (List DirectoryEntry) FileFault) (es fs : List DirectoryEntry) → r ≡ Ok es → result_ok r ≡ Some fs → fs ≡ es
read_again r es fs is said = sym (same_Some es fs (sym (ap result_ok is) ∙ said))

module _ (files : RevisionBytes) (blocks : List Block) (tables : List Table) (lists : List ChangeMap) (all : AreTabled files blocks tables lists)
    (file : List ℕ) (pieces : List FilePiece) (said : List FileChange) (read : revision_of (length tables) file ≡ Ok (pieces, said)) where
  abbrev more : RevisionBytes
  more = files ++ file ∷ []

  abbrev n : ℕ
  n = length tables

  long : length files ≡ n
  long = all.all ∙ sym all.tabled

  -- an entry of an earlier node leads to an earlier node
  old_entry : (m : NodeId) (e : NodeRev) (placed : Placed) (g : IsFiled more tables m e placed) (name : Component) (id : FileId)
      → entry_named name g.entries ≡ Some id → id.revision < n
  old_entry m e placed g name id is = by (kid_of name e) (subst (IsAt tables (kid_of name e)) is (g.kids name))
    where
      at : (kid : NodeId) (o : Option Placed) → placed_in tables kid ≡ o → option_map (λ (p : Placed). p.id) o ≡ Some id → id.revision < n
      at kid None there e = absurd (none-some id e)
      at kid (Some p) there e =
          let same : id.revision ≡ kid.rev = ap (λ (i : FileId). i.revision) (sym (same_Some p.id id e)) ∙ of_revision files blocks tables lists all kid p there in
          let within = inside kid p there in
          omega (arith, same, within)
        where
          inside : (k : NodeId) (q : Placed) → placed_in tables k ≡ Some q → k.rev < n
          inside k q there = table (slice_get tables k.rev) refl there
            where
              table : (t : Option Table) → slice_get tables k.rev ≡ t → option_and_then (λ (x : Table). slice_get x.placed.items k.place) t ≡ Some q → k.rev < n
              table None is e = absurd (none-some q e)
              table (Some t) is e = slice_get_within tables k.rev t is

      by : (o : Option NodeId) → IsAt tables o (Some id) → id.revision < n
      by None no_one = absurd no_one
      by (Some kid) is = at kid (placed_in tables kid) refl is

  -- so does an entry that is kept
  kept_entry : (node : FileNode) (l : Representation) (entries : List DirectoryEntry) → node.text ≡ Some l → node.kind ≡ Directory
      → IfSome node.predecessor (IsTabled tables) → text_before more node ≡ Some l → kind_before more node ≡ Some Directory
      → entries_in more node ≡ Some entries → (name : Component) (id : FileId) → entry_named name entries ≡ Some id → id.revision < n
  kept_entry node l entries text kind tabled text_is kind_is has name id is = by node.predecessor refl tabled
    where
      -- the node before, as it was tabled
      of_node : (pid : FileId) (m : NodeId) (e : NodeRev) (placed : Placed) → node.predecessor ≡ Some pid → placed.id ≡ pid → IsFiled files tables m e placed
          → id.revision < n
      of_node pid m e placed pred same f =
          let g : IsFiled more tables m e placed = filed_more_files files file tables m e placed f in
          let there : option_and_then (piece_in more) node.predecessor ≡ Some g.piece =
          ap (option_and_then (piece_in more)) pred ∙ ap (piece_in more) (sym same) ∙ g.there in
          let line : g.piece.node.text ≡ Some l =
          sym (ap (λ o. option_and_then (λ (b : FileNode). b.text) (option_map (λ (p : FilePiece). p.node) o)) there) ∙ text_is in
          let of : g.piece.node.kind ≡ Directory =
          same_Some g.piece.node.kind Directory (sym (ap (λ o. option_map (λ (b : FileNode). b.kind) (option_map (λ (p : FilePiece). p.node) o)) there) ∙ kind_is) in
          let equal : entries ≡ g.entries = same_Some entries g.entries (sym has
          ∙ ap (λ k. entries_by more node.text k) kind ∙ ap (λ t. entries_by more t Directory) (text ∙ sym line)
          ∙ ap (λ k. entries_by more g.piece.node.text k) (sym of) ∙ g.read) in
          old_entry m e placed g name id (ap (entry_named name) (sym equal) ∙ is)

      of_place : (pid : FileId) (t : Table) (k : ℕ) → node.predecessor ≡ Some pid → slice_get tables pid.revision ≡ Some t
          → (o : Option Placed) → slice_get t.placed.items k ≡ o → IsSomeAnd o (λ p. p.id ≡ pid) → id.revision < n
      of_place pid t k pred at None there same = absurd same
      of_place pid t k pred at (Some placed) there same =
          let m : NodeId = record { rev = pid.revision; place = k } in
          let is_placed : placed_in tables m ≡ Some placed = ap (option_and_then (λ (x : Table). slice_get x.placed.items k)) at ∙ there in
          found (node_in blocks m) (subst (IsPlaced files tables m (node_in blocks m)) is_placed (all.nodes m))
        where
          found : (o : Option NodeRev) → IsPlaced files tables (record { rev = pid.revision; place = k }) o (Some placed) → id.revision < n
          found None f = absurd f
          found (Some e) f = of_node pid (record { rev = pid.revision; place = k }) e placed pred same f

      of_table : (pid : FileId) → node.predecessor ≡ Some pid → (o : Option Table) → slice_get tables pid.revision ≡ o
          → IsSomeAnd o (λ t. (k : ℕ) × IsSomeAnd (slice_get t.placed.items k) (λ p. p.id ≡ pid)) → id.revision < n
      of_table pid pred None at has = absurd has
      of_table pid pred (Some t) at has = of_place pid t has.0 pred at (slice_get t.placed.items has.0) refl has.1

      by : (o : Option FileId) → node.predecessor ≡ o → IfSome o (IsTabled tables) → id.revision < n
      by None pred has = absurd (none-some l (sym (ap (λ p. option_and_then (λ (b : FileNode). b.text) (option_map (λ (x : FilePiece). x.node) (option_and_then (piece_in more) p))) pred) ∙ text_is))
      by (Some pid) pred has = of_table pid pred (slice_get tables pid.revision) refl has

  -- an entry of this revision lies before its directory
  entry_before : (j : ℕ) (piece : FilePiece) (known : FileId → Type 0) → slice_get pieces j ≡ Some piece → IsReadable more tables known piece
      → (entries : List DirectoryEntry) → entries_in more piece.node ≡ Some entries → (name : Component) (id : FileId) → entry_named name entries ≡ Some id
      → id.revision ≡ n → id.offset < piece.node.id.offset
  entry_before j piece known at readable entries has name id is of =
      by_kind piece.node.kind refl
    where
      last : IsOfLast more n piece
      last = pieces_of_last more n file pieces said (last_file files file n long pieces said read) read j piece at

      none_named : entries ≡ [] → id.offset < piece.node.id.offset
      none_named no_one = absurd (none-some id (sym (ap (entry_named name) no_one) ∙ is))

      new_entries : (l : Representation) (body : List ℕ) → piece.node.kind ≡ Directory → piece.node.text ≡ Some l → piece.text ≡ Some body
          → id.offset < piece.node.id.offset
      new_entries l body kind text new =
          let came = entries_lie_before n file pieces said read j piece at in
          let here : l.revision ≡ n = subst (λ o. IsHere n (Some l) o) new (subst (λ o. IsHere n o piece.text) text last.text_here) in
          let bytes : body_at_line more l ≡ Some body = last.text l body text here new in
          let said_by_file : result_ok (entries_of body) ≡ Some entries =
          ap (λ o. option_and_then (λ b. result_ok (entries_of b)) o) (sym bytes) ∙ ap (entries_at more) (sym text)
          ∙ ap (λ k. entries_by more piece.node.text k) (sym kind) ∙ has in
          let brought : entries_of body ≡ Ok came.0 =
          ap reading.entries_from (sym new) ∙ ap (λ k. reading.entries_of_kind k piece.text) (sym kind) ∙ came.1.0 in
          before_offset n piece.node.id.offset id
          (named_before n piece.node.id.offset name id came.0 came.1.1
          (ap (entry_named name) (sym (read_again (entries_of body) came.0 entries brought said_by_file)) ∙ is)) of

      kept_entries : (l : Representation) → piece.node.kind ≡ Directory → piece.node.text ≡ Some l → piece.text ≡ None → id.offset < piece.node.id.offset
      kept_entries l kind text none =
          let earlier = kept_entry piece.node l entries text kind readable.before
          (subst (λ o. IsKept o None (text_before more piece.node)) text (subst (λ o. IsKept piece.node.text o (text_before more piece.node)) none readable.text))
          (readable.kind (ap is_some text) none ∙ ap Some kind) has name id is in
          absurd (omega (arith, earlier, of))

      by_new : (l : Representation) (o : Option (List ℕ)) → piece.text ≡ o → piece.node.kind ≡ Directory → piece.node.text ≡ Some l
          → id.offset < piece.node.id.offset
      by_new l None new kind text = kept_entries l kind text new
      by_new l (Some body) new kind text = new_entries l body kind text new

      by_text : (o : Option Representation) → piece.node.text ≡ o → piece.node.kind ≡ Directory → id.offset < piece.node.id.offset
      by_text None text kind = none_named (same_Some entries [] (sym has ∙ ap (λ k. entries_by more piece.node.text k) kind ∙ ap (entries_at more) text))
      by_text (Some l) text kind = by_new l piece.text refl kind text

      by_kind : (kind : EntryKind) → piece.node.kind ≡ kind → id.offset < piece.node.id.offset
      by_kind File is_file = none_named (same_Some entries [] (sym has ∙ ap (λ k. entries_by more piece.node.text k) is_file))
      by_kind Directory is_directory = by_text piece.node.text refl is_directory

  module _ (block : Block) (table : Table) (list : ChangeMap) (readable : AreReadable more tables pieces)
      (after : AreTabled more (blocks ++ block ∷ []) (tables ++ table ∷ []) (lists ++ list ∷ [])) where
    has_rows : HasRows pieces table
    has_rows = subst (λ o. IsSomeAnd o (λ s. HasRows s.0 table)) (last_revision files file n long pieces said read)
        (after.rows n table (last_place tables table))

    at_new : (id : NodeId) → id.rev ≡ n → placed_in (tables ++ table ∷ []) id ≡ slice_get table.placed.items id.place
    at_new id e = ap (option_and_then (λ (t : Table). slice_get t.placed.items id.place)) (ap (slice_get (tables ++ table ∷ [])) e ∙ last_place tables table)

    block_here : (id : NodeId) → id.rev ≡ n → node_in (blocks ++ block ∷ []) id ≡ slice_get block.nodes.items id.place
    block_here id e = ap (option_and_then (λ (b : Block). slice_get b.nodes.items id.place))
        (ap (slice_get (blocks ++ block ∷ [])) (e ∙ all.tabled) ∙ last_place blocks block)

    -- an entry of this revision stands in front of its directory
    kid_in_front : (k : ℕ) (node : NodeRev) → slice_get block.nodes.items k ≡ Some node → (name : Component) (kid : NodeId)
        → kid_of name node ≡ Some kid → kid.rev ≡ n → kid.place < k
    kid_in_front k node at name kid named of = by (placed_in (tables ++ table ∷ []) here) refl
        (subst (λ o. IsPlaced more (tables ++ table ∷ []) here o (placed_in (tables ++ table ∷ []) here)) (block_here here refl ∙ at) (after.nodes here))
      where
        here : NodeId
        here = record { rev = n; place = k }

        of_kid : (placed : Placed) (f : IsFiled more (tables ++ table ∷ []) here node placed) → placed_in (tables ++ table ∷ []) here ≡ Some placed
            → (id : FileId) → entry_named name f.entries ≡ Some id → (o : Option Placed) → placed_in (tables ++ table ∷ []) kid ≡ o
            → option_map (λ (p : Placed). p.id) o ≡ Some id → kid.place < k
        of_kid placed f there id entry None at_kid e = absurd (none-some id e)
        of_kid placed f there id entry (Some q) at_kid e =
            let own : slice_get table.placed.items k ≡ Some placed = sym (at_new here refl) ∙ there in
            let other : slice_get table.placed.items kid.place ≡ Some q = sym (at_new kid of) ∙ at_kid in
            let p = piece_at_place pieces table has_rows k placed own in
            let j = forwards pieces k p.0 p.1.0 in
            let last = pieces_of_last more n file pieces said (last_file files file n long pieces said read) read (length pieces - 1 - k) p.0 j in
            let same_id : p.0.node.id ≡ placed.id = ap (λ (x : Placed). x.id) p.1.1 in
            let same_piece : f.piece ≡ p.0 = same_Some f.piece p.0 (sym f.there ∙ ap (piece_in more) (sym same_id) ∙ last.there) in
            let q_id : q.id ≡ id = same_Some q.id id e in
            let of_id : id.revision ≡ n = ap (λ (i : FileId). i.revision) (sym q_id)
            ∙ of_revision more (blocks ++ block ∷ []) (tables ++ table ∷ []) (lists ++ list ∷ []) after kid q at_kid ∙ of in
            let lower : id.offset < p.0.node.id.offset = entry_before (length pieces - 1 - k) p.0 _ j
            (subst (IsReadable more tables _) (get_or_from_slice_get pieces (length pieces - 1 - k) p.0 p.0 j)
            (readable.nodes (length pieces - 1 - k) p.0 (slice_get_within pieces (length pieces - 1 - k) p.0 j)))
            f.entries (ap (λ (x : FilePiece). entries_in more x.node) (sym same_piece) ∙ f.read) name id entry of_id in
            let below : q.id.offset < placed.id.offset =
            subst (λ (i : FileId). i.offset < placed.id.offset) (sym q_id) (subst (λ (i : FileId). id.offset < i.offset) same_id lower) in
            in_front placed q own other below
          where
            in_front : (x y : Placed) → slice_get table.placed.items k ≡ Some x → slice_get table.placed.items kid.place ≡ Some y
                → y.id.offset < x.id.offset → kid.place < k
            in_front x y own other below = ⊎_elim
                (λ lt. lt)
                (λ ge. ⊎_elim
                (λ lt. let up = rising more (pieces, said) table n k kid.place x y (last_revision files file n long pieces said read) has_rows own other lt in
                absurd (omega (arith, up, below)))
                (λ le.
                let e : kid.place ≡ k = omega (arith, ge, le) in
                let same : x ≡ y = same_Some x y (sym own ∙ ap (slice_get table.placed.items) (sym e) ∙ other) in
                let equal : x.id.offset ≡ y.id.offset = ap (λ (p : Placed). p.id.offset) same in
                absurd (omega (arith, below, equal)))
                (cases_lt k kid.place))
                (cases_lt kid.place k)

        of_file : (placed : Placed) (f : IsFiled more (tables ++ table ∷ []) here node placed) → placed_in (tables ++ table ∷ []) here ≡ Some placed
            → (o : Option FileId) → entry_named name f.entries ≡ o → IsAt (tables ++ table ∷ []) (Some kid) o → kid.place < k
        of_file placed f there None entry is = absurd is
        of_file placed f there (Some id) entry is = of_kid placed f there id entry (placed_in (tables ++ table ∷ []) kid) refl is

        by : (o : Option Placed) → placed_in (tables ++ table ∷ []) here ≡ o → IsPlaced more (tables ++ table ∷ []) here (Some node) o → kid.place < k
        by None there f = absurd f
        by (Some placed) there f = of_file placed f there (entry_named name f.entries) refl
            (subst (λ o. IsAt (tables ++ table ∷ []) o (entry_named name f.entries)) named (f.kids name))

    module _ (nodes : Nodes) (is : blocks_of nodes ≡ blocks) (heights : HaveHeights (node_at nodes) n block.nodes.items) where
      abbrev look : Look
      look = node_at nodes

      abbrev items : List NodeRev
      items = block.nodes.items

      -- what a directory in the block sees of its entries is there in front of it
      same_kid : (k : ℕ) (node : NodeRev) → slice_get items k ≡ Some node → (name : Component) (kid : NodeId) → kid_named node.kids name ≡ Some kid
          → with_block look n (take k items) kid ≡ with_block look n items kid
      same_kid k node at name kid named = by (kid.rev == n) refl
        where
          by : (b : Bool) → (kid.rev == n) ≡ b
              → (if kid.rev == n then slice_get (take k items) kid.place else look kid) ≡ (if kid.rev == n then slice_get items kid.place else look kid)
          by true e = ap (λ b. if b then slice_get (take k items) kid.place else look kid) e
              ∙ get_front items k kid.place (kid_in_front k node at name kid named (eqb-true kid.rev n e))
              ∙ sym (ap (λ b. if b then slice_get items kid.place else look kid) e)
          by false e = ap (λ b. if b then slice_get (take k items) kid.place else look kid) e
              ∙ sym (ap (λ b. if b then slice_get items kid.place else look kid) e)

      new_high : (k : ℕ) (node : NodeRev) → slice_get items k ≡ Some node → IsHeight (with_block look n items) node.kids node.height
      new_high k node at =
          let h = heights k node at in
          record {
            enough = λ name kid x named there. h.enough name kid x named (same_kid k node at name kid named ∙ there);
            least = λ m enough. h.least m (λ name kid x named there. enough name kid x named (sym (same_kid k node at name kid named) ∙ there));
          }

      free : (id : NodeId) → IsSome (look id) → (id.rev == n) ≡ false
      free id some = subst (λ m. (id.rev == m) ≡ false) (ap length is ∙ sym all.tabled) (next_is_free nodes.blocks id some)

      old_look : (id : NodeId) → IsSome (look id) → with_block look n items id ≡ look id
      old_look id some = ap (λ b. if b then slice_get items id.place else look id) (free id some)

      old_high : (id : NodeId) (node : NodeRev) → look id ≡ Some node → IsHeight (with_block look n items) node.kids node.height
      old_high id node at =
          let h = nodes.high id node at in
          let there = λ (name : Component) (kid : NodeId) (named : kid_named node.kids name ≡ Some kid).
          nodes.kids id kid name (ap (option_and_then (kid_of name)) at ∙ named) in
          record {
            enough = λ name kid x named at_kid. h.enough name kid x named (sym (old_look kid (there name kid named)) ∙ at_kid);
            least = λ m enough. h.least m (λ name kid x named at_kid. enough name kid x named (old_look kid (there name kid named) ∙ at_kid));
          }

      pub are_high : AreHigh (with_block look n items)
      are_high id node at = by (id.rev == n) refl
        where
          by : (b : Bool) → (id.rev == n) ≡ b → IsHeight (with_block look n items) node.kids node.height
          by true e = new_high id.place node (sym (ap (λ b. if b then slice_get items id.place else look id) e) ∙ at)
          by false e = old_high id node (sym (ap (λ b. if b then slice_get items id.place else look id) e) ∙ at)
