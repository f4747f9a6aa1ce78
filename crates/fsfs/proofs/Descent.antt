-- What a root leads to is read by falling offsets.
use Rattle.std.proofs.Common.{◌≡◌, ℕ, zero, suc, ◌+◌, ◌<◌, ◌≤◌, ◌⊎◌, inl, inr, Bool, true, false, ◌&&◌, ◌||◌, cond, eqb, ltb, List, [], ◌∷◌, ◌++◌, length, map}
use Rattle.std.proofs.Common.{reverse, get_or, set, Result, Ok, Err, refl, sym, ap, subst, ◌∙◌, arith}
use Rattle.std.proofs.lemmas.Bool.{cases_eq, cases_lt, eqb-true, eqb-false, le-ltb, ltb-true}
use Rattle.std.proofs.lemmas.List.{length-append, length-set, get_or-set_same, get_or-set_other, reverse-append}
use Rattle.fsfs_text.specs.{declared.fault.FileFault.FileFault, declared.fault.FileFault.TheVariants.Dangling, Reading.◌>>=◌, declared.id.FileId.FileId}
use Rattle.fsfs_nodes.specs.{declared.node.FileNode.FileNode, Nodes.{identity_lines, content_lines, origin_lines, node_bytes}}
use Rattle.fsfs_nodes.specs.declared.entries.DirectoryEntry.{DirectoryEntry}
use Rattle.fsfs.specs.{declared.piece.FilePiece.FilePiece, Pieces.{is_before, entries_in, marked, step_of, before, pieces_below, piece_at}}
use Rattle.fsfs.specs.{Files.{Piece, brought, piece_bytes, pieces_bytes, ArePlaced, AreFound}, Whole.file_piece}
use Rattle.fsfs.specs.Reached.{NamesIn, LieBefore, WantedAfter, AreReached, KeepOthers}
use Rattle.fsfs.proofs.Parts.{piece_read}

-- ---- marks

-- a table with the marks of entries beside those of another
pub record Marks (revision offset : ℕ) (entries : List DirectoryEntry) (old new : List Bool) : Type 0 where
  pub done : marked revision offset entries old ≡ Ok new
  pub long : length new ≡ length old
  pub only : (o : ℕ) → get_or new o false ≡ true → (get_or old o false ≡ true) ⊎ NamesIn revision entries o
  pub all : (o : ℕ) → (get_or old o false ≡ true) ⊎ NamesIn revision entries o → get_or new o false ≡ true

abbrev Marked : ℕ → ℕ → List DirectoryEntry → List Bool → Type 0
Marked revision offset entries old = (new : List Bool) × Marks revision offset entries old new

-- an id of this revision that lies before an offset
lower : (revision offset : ℕ) (id : FileId) → is_before revision offset id ≡ true → eqb id.revision revision ≡ true → id.offset < offset
lower revision offset id h same =
    let equal : id.revision ≡ revision = eqb-true _ _ same in
    let none : ltb id.revision revision ≡ false = le-ltb id.revision revision (omega arith) in
    ltb-true id.offset offset
    (sym (ap (λ t. t || (eqb id.revision revision && ltb id.offset offset)) none ∙ ap (λ t. t && ltb id.offset offset) same) ∙ h)

marked_first : (revision offset : ℕ) (entry : DirectoryEntry) (entries : List DirectoryEntry) (old : List Bool) (t : Bool)
    → is_before revision offset entry.id ≡ true → eqb entry.id.revision revision ≡ t
    → marked revision offset (entry ∷ entries) old ≡ cond t (marked revision offset entries (set old entry.id.offset true)) (marked revision offset entries old)
marked_first revision offset entry entries old t h e =
    let here = marked revision offset entries (set old entry.id.offset true) in
    let other = marked revision offset entries old in
    ap (λ s. cond s (cond (eqb entry.id.revision revision) here other) (Err Dangling)) h ∙ ap (λ s. cond s here other) e

with_mark : (revision offset : ℕ) (entry : DirectoryEntry) (entries : List DirectoryEntry) (old : List Bool) → offset ≤ length old
    → is_before revision offset entry.id ≡ true → eqb entry.id.revision revision ≡ true
    → Marked revision offset entries (set old entry.id.offset true) → Marked revision offset (entry ∷ entries) old
with_mark revision offset entry entries old within h same rest =
    let place = entry.id.offset in
    let m = rest.1 in
    let under : place < length old = omega (arith, lower revision offset entry.id h same, within) in
    let named : entry.id.revision ≡ revision = eqb-true _ _ same in (
      rest.0,
      record {
        done = marked_first revision offset entry entries old true h same ∙ m.done;
        long = m.long ∙ length-set old place true;
        only = λ o e. first o named (cases_eq o place) (m.only o e);
        all = λ o w. m.all o (second o under (cases_eq o place) w);
      },
    )
  where
    first : (o : ℕ) → entry.id.revision ≡ revision → (o ≡ entry.id.offset) ⊎ (o ≡ entry.id.offset → ⊥)
        → (get_or (set old entry.id.offset true) o false ≡ true) ⊎ NamesIn revision entries o
        → (get_or old o false ≡ true) ⊎ NamesIn revision (entry ∷ entries) o
    first o named case (inr n) = inr (inr n)
    first o named (inl same) (inl e) = inr (inl (named, sym same))
    first o named (inr other) (inl e) = inl (sym (get_or-set_other old entry.id.offset o true false other) ∙ e)

    here : (o : ℕ) → entry.id.offset < length old → o ≡ entry.id.offset → get_or (set old entry.id.offset true) o false ≡ true
    here o under same = ap (λ (k : ℕ). get_or (set old entry.id.offset true) k false) same ∙ get_or-set_same old entry.id.offset true false under

    second : (o : ℕ) → entry.id.offset < length old → (o ≡ entry.id.offset) ⊎ (o ≡ entry.id.offset → ⊥)
        → (get_or old o false ≡ true) ⊎ NamesIn revision (entry ∷ entries) o
        → (get_or (set old entry.id.offset true) o false ≡ true) ⊎ NamesIn revision entries o
    second o under (inl same) (inl e) = inl (here o under same)
    second o under (inr other) (inl e) = inl (get_or-set_other old entry.id.offset o true false other ∙ e)
    second o under case (inr (inl n)) = inl (here o under (sym n.1))
    second o under case (inr (inr n)) = inr n

without_mark : (revision offset : ℕ) (entry : DirectoryEntry) (entries : List DirectoryEntry) (old : List Bool)
    → is_before revision offset entry.id ≡ true → eqb entry.id.revision revision ≡ false
    → Marked revision offset entries old → Marked revision offset (entry ∷ entries) old
without_mark revision offset entry entries old h other rest =
    let m = rest.1 in (
      rest.0,
      record {
        done = marked_first revision offset entry entries old false h other ∙ m.done;
        long = m.long;
        only = λ o e. first o (m.only o e);
        all = λ o w. m.all o (second o w);
      },
    )
  where
    first : (o : ℕ) → (get_or old o false ≡ true) ⊎ NamesIn revision entries o → (get_or old o false ≡ true) ⊎ NamesIn revision (entry ∷ entries) o
    first o (inl e) = inl e
    first o (inr n) = inr (inr n)

    second : (o : ℕ) → (get_or old o false ≡ true) ⊎ NamesIn revision (entry ∷ entries) o → (get_or old o false ≡ true) ⊎ NamesIn revision entries o
    second o (inl e) = inl e
    second o (inr (inl n)) = absurd (eqb-false _ _ other n.0)
    second o (inr (inr n)) = inr n

marks : (revision offset : ℕ) (entries : List DirectoryEntry) (old : List Bool) → offset ≤ length old → LieBefore revision offset entries
    → Marked revision offset entries old
marks revision offset [] old within lie = (old, record { done = refl; long = refl; only = λ o e. inl e; all = λ o w. same o w })
  where
    same : (o : ℕ) → (get_or old o false ≡ true) ⊎ ⊥ → get_or old o false ≡ true
    same o (inl e) = e
    same o (inr n) = absurd n
marks revision offset (entry ∷ entries) old within lie =
    by (λ table long. marks revision offset entries table long lie.1) (eqb entry.id.revision revision) refl
  where
    by : ((table : List Bool) → offset ≤ length table → Marked revision offset entries table)
        → (t : Bool) → eqb entry.id.revision revision ≡ t → Marked revision offset (entry ∷ entries) old
    by again true e = with_mark revision offset entry entries old within lie.0 e
        (again (set old entry.id.offset true) (omega (arith, within, length-set old entry.id.offset true)))
    by again false e = without_mark revision offset entry entries old lie.0 e (again old within)

-- ---- falling offsets

-- the offsets fall from below an end to a lowest one
abbrev pub AreFalling : ℕ → ℕ → List Piece → Type 0
AreFalling low end [] = low ≤ end
AreFalling low end (piece ∷ pieces) = (piece.node.id.offset < end) × AreFalling low piece.node.id.offset pieces

falling_behind : (low lower end : ℕ) (pieces : List Piece) (piece : Piece) → AreFalling low end pieces → piece.node.id.offset < low → lower ≤ piece.node.id.offset
    → AreFalling lower end (pieces ++ piece ∷ [])
falling_behind low lower end [] piece falling under above = (omega (arith, falling, under), above)
falling_behind low lower end (p ∷ pieces) piece falling under above =
    (falling.0, falling_behind low lower p.node.id.offset pieces piece falling.1 under above)

-- it is read at its offset
abbrev pub AreRead : ℕ → List ℕ → List Piece → Type 0
AreRead revision file [] = Unit {0}
AreRead revision file (piece ∷ pieces) = (piece_at revision file piece.node.id.offset ≡ Ok (file_piece piece)) × AreRead revision file pieces

read_behind : (revision : ℕ) (file : List ℕ) (pieces : List Piece) (piece : Piece) → AreRead revision file pieces
    → piece_at revision file piece.node.id.offset ≡ Ok (file_piece piece) → AreRead revision file (pieces ++ piece ∷ [])
read_behind revision file [] piece read here = (here, tt)
read_behind revision file (p ∷ pieces) piece read here = (read.0, read_behind revision file pieces piece read.1 here)

backwards : {A : Type 0} (x : A) (xs : List A) → reverse (x ∷ xs) ≡ reverse xs ++ x ∷ []
backwards x xs = reverse-append (x ∷ []) xs

node_long : (node : FileNode) → 0 < length (node_bytes node)
node_long node = omega (arith, length-append (identity_lines node) (content_lines node ++ origin_lines node ++ 10 ∷ []), length-append (content_lines node) (origin_lines node ++ 10 ∷ []), length-append (origin_lines node) (10 ∷ []))

pub falling : (revision offset : ℕ) (pieces : List Piece) → ArePlaced revision offset pieces
    → AreFalling offset (offset + length (pieces_bytes pieces)) (reverse pieces)
falling revision offset [] placed = omega arith
falling revision offset (piece ∷ pieces) placed =
    let b = piece_bytes piece in
    let whole = length-append b (pieces_bytes pieces) in
    let t = length-append (brought piece.text) (brought piece.properties ++ node_bytes piece.node) in
    let p = length-append (brought piece.properties) (node_bytes piece.node) in
    let long = node_long piece.node in
    let place = placed.0.place in
    let end : offset + length b + length (pieces_bytes pieces) ≡ offset + length (b ++ pieces_bytes pieces) = omega (arith, whole) in
    let later : AreFalling (offset + length b) (offset + length (b ++ pieces_bytes pieces)) (reverse pieces) =
    subst (λ (k : ℕ). AreFalling (offset + length b) k (reverse pieces)) end (falling revision (offset + length b) pieces placed.1) in
    subst (λ (x : List Piece). AreFalling offset (offset + length (b ++ pieces_bytes pieces)) x) (sym (backwards piece pieces))
    (falling_behind (offset + length b) offset (offset + length (b ++ pieces_bytes pieces)) (reverse pieces) piece later (omega (arith, t, p, long, place)) (omega (arith, place)))

pub all_read : (revision : ℕ) (file : List ℕ) (pieces : List Piece) → AreFound revision file pieces → KeepOthers revision pieces
    → AreRead revision file (reverse pieces)
all_read revision file [] found keep = tt
all_read revision file (piece ∷ pieces) found keep =
    subst (λ (x : List Piece). AreRead revision file x) (sym (backwards piece pieces))
    (read_behind revision file (reverse pieces) piece (all_read revision file pieces found.1 keep.1) (piece_read revision file piece found.0 keep.0))

-- ---- the descent

-- below the end, what is marked is what is wanted
pub record Agrees (end : ℕ) (IsWanted : ℕ → Type 0) (table : List Bool) : Type 0 where
  pub marked : (o : ℕ) → o < end → get_or table o false ≡ true → IsWanted o
  pub wanted : (o : ℕ) → o < end → IsWanted o → get_or table o false ≡ true

agrees_below : (low end : ℕ) (IsWanted : ℕ → Type 0) (table : List Bool) → low ≤ end → Agrees end IsWanted table → Agrees low IsWanted table
agrees_below low end IsWanted table le agrees = record {
  marked = λ o lt e. agrees.marked o (omega (arith, lt, le)) e;
  wanted = λ o lt w. agrees.wanted o (omega (arith, lt, le)) w;
}

-- nothing above all of them is wanted
none_above : (revision low end : ℕ) (IsWanted : ℕ → Type 0) (pieces : List Piece) (o : ℕ) → AreFalling low end pieces → end ≤ o → AreReached revision IsWanted pieces
    → IsWanted o → ⊥
none_above revision low end IsWanted [] o falling le reached w = reached o w
none_above revision low end IsWanted (piece ∷ pieces) o falling le reached w =
    none_above revision low piece.node.id.offset (WantedAfter revision piece.node.id.offset reached.0 IsWanted) pieces o falling.1 (omega (arith, falling.0, le)) reached.4
    (differ, inl w)
  where
    differ : o ≡ piece.node.id.offset → ⊥
    differ e = omega (arith, falling.0, le)

agrees_next : (revision place end : ℕ) (IsWanted : ℕ → Type 0) (entries : List DirectoryEntry) (old new : List Bool) → place < end → Agrees end IsWanted old
    → Marks revision place entries old new → Agrees place (WantedAfter revision place entries IsWanted) new
agrees_next revision place end IsWanted entries old new lt agrees m = record {
  marked = λ o under e. (λ same. omega (arith, under, same), first o (omega (arith, under, lt)) (m.only o e));
  wanted = λ o under w. m.all o (second o (omega (arith, under, lt)) w.1);
}
  where
    first : (o : ℕ) → o < end → (get_or old o false ≡ true) ⊎ NamesIn revision entries o → IsWanted o ⊎ NamesIn revision entries o
    first o under (inl e) = inl (agrees.marked o under e)
    first o under (inr n) = inr n

    second : (o : ℕ) → o < end → IsWanted o ⊎ NamesIn revision entries o → (get_or old o false ≡ true) ⊎ NamesIn revision entries o
    second o under (inl w) = inl (agrees.wanted o under w)
    second o under (inr n) = inr n

abbrev Read : Type 0
Read = Result (List FilePiece) FileFault

stepped : (revision : ℕ) (file : List ℕ) (piece : Piece) (entries : List DirectoryEntry) (old new : List Bool)
    → piece_at revision file piece.node.id.offset ≡ Ok (file_piece piece) → entries_in (file_piece piece) ≡ Ok entries
    → Marks revision piece.node.id.offset entries old new → step_of revision file piece.node.id.offset old ≡ Ok (file_piece piece, new)
unfolding step_of
stepped revision file piece entries old new read named m = rw (read, named, m.done) refl

passes : (revision : ℕ) (file : List ℕ) (end : ℕ) (table : List Bool) → get_or table end false ≡ false
    → pieces_below revision file (suc end) table ≡ pieces_below revision file end table
passes revision file end table e =
    ap (λ t. cond t (step_of revision file end table >>= λ step. before step.0 (pieces_below revision file end step.1)) (pieces_below revision file end table)) e

reads : (revision : ℕ) (file : List ℕ) (end : ℕ) (table new : List Bool) (piece : FilePiece) → get_or table end false ≡ true
    → step_of revision file end table ≡ Ok (piece, new) → pieces_below revision file (suc end) table ≡ before piece (pieces_below revision file end new)
reads revision file end table new piece e step =
    ap (λ t. cond t (step_of revision file end table >>= λ step. before step.0 (pieces_below revision file end step.1)) (pieces_below revision file end table)) e
    ∙ ap (λ (r : Result (FilePiece × List Bool) FileFault). r >>= λ step. before step.0 (pieces_below revision file end step.1)) step

pub descent : (revision : ℕ) (file : List ℕ) (low end : ℕ) (IsWanted : ℕ → Type 0) (table : List Bool) (pieces : List Piece) → AreFalling low end pieces
    → AreRead revision file pieces → AreReached revision IsWanted pieces → Agrees end IsWanted table → end ≤ length table
    → pieces_below revision file end table ≡ Ok (map file_piece pieces)
descent revision file low zero IsWanted table [] falling read reached agrees long = refl
descent revision file low zero IsWanted table (piece ∷ pieces) falling read reached agrees long = absurd (omega (arith, falling.0))
descent revision file low (suc end) IsWanted table [] falling read reached agrees long =
    by (get_or table end false) refl (descent revision file 0 end IsWanted table [] (omega arith) tt reached (agrees_below end (suc end) IsWanted table (omega arith) agrees) (omega (arith, long)))
  where
    by : (t : Bool) → get_or table end false ≡ t → pieces_below revision file end table ≡ Ok [] → pieces_below revision file (suc end) table ≡ Ok []
    by true e rest = absurd (reached end (agrees.marked end (omega arith) e))
    by false e rest = passes revision file end table e ∙ rest
descent revision file low (suc end) IsWanted table (piece ∷ pieces) falling read reached agrees long =
    by (cases_lt piece.node.id.offset end)
    (λ under. descent revision file low end IsWanted table (piece ∷ pieces) (under, falling.1) read reached (agrees_below end (suc end) IsWanted table (omega arith) agrees) (omega (arith, long)))
    (λ new same m. descent revision file low end (WantedAfter revision piece.node.id.offset reached.0 IsWanted) new pieces
    (subst (λ (k : ℕ). AreFalling low k pieces) (sym same) falling.1) read.1 reached.4
    (subst (λ (k : ℕ). Agrees k (WantedAfter revision piece.node.id.offset reached.0 IsWanted) new) (sym same) (agrees_next revision piece.node.id.offset (suc end) IsWanted reached.0 table new falling.0 agrees m))
    (omega (arith, long, m.long)))
  where
    place : ℕ
    place = piece.node.id.offset

    no_mark : place < end → (t : Bool) → get_or table end false ≡ t → pieces_below revision file end table ≡ Ok (map file_piece (piece ∷ pieces))
        → pieces_below revision file (suc end) table ≡ Ok (map file_piece (piece ∷ pieces))
    no_mark under true e rest = absurd (none_above revision low end IsWanted (piece ∷ pieces) end (under, falling.1) (omega arith) reached (agrees.marked end (omega arith) e))
    no_mark under false e rest = passes revision file end table e ∙ rest

    by : (place < end) ⊎ (end ≤ place)
        → (place < end → pieces_below revision file end table ≡ Ok (map file_piece (piece ∷ pieces)))
        → ((new : List Bool) → end ≡ place → Marks revision place reached.0 table new → pieces_below revision file end new ≡ Ok (map file_piece pieces))
        → pieces_below revision file (suc end) table ≡ Ok (map file_piece (piece ∷ pieces))
    by (inl under) later next = no_mark under (get_or table end false) refl (later under)
    by (inr above) later next =
        let same : end ≡ place = omega (arith, above, falling.0) in
        let m = marks revision place reached.0 table (omega (arith, same, long)) reached.3 in
        let step : step_of revision file end table ≡ Ok (file_piece piece, m.0) =
        ap (λ (k : ℕ). step_of revision file k table) same ∙ stepped revision file piece reached.0 table m.0 read.0 reached.1 m.1 in
        let want : get_or table end false ≡ true = ap (λ (k : ℕ). get_or table k false) same ∙ agrees.wanted place falling.0 reached.2 in
        reads revision file end table m.0 (file_piece piece) want step ∙ ap (before (file_piece piece)) (next m.0 same m.1)
