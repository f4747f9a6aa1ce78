-- The last node revision leads to all others, where each but it is an entry of a later one.
use Rattle.std.proofs.Common.{◌≡◌, ◌+◌, ◌<◌, ◌≤◌, ◌⊎◌, inl, inr, ◌||◌, ◌&&◌, ltb, ℕ, zero, suc, Bool, true, false, List, [], ◌∷◌, ◌++◌, length, take, reverse}
use Rattle.std.proofs.{Common.{get_or, Some, None, Ok, refl, sym, ap, subst, ◌∙◌, arith}, lemmas.Bool.{cases_eq, eq-eqb, lt-ltb}}
use Rattle.std.proofs.{lemmas.List.{reverse-append, take_all, take_more}, lemmas.Option.{slice_get_cases, slice_get_within}}
use Rattle.std.specs.Prelude.{slice_get}
use Rattle.fsfs_text.specs.declared.id.FileId.{FileId}
use Rattle.fsfs_nodes.specs.declared.entries.DirectoryEntry.{DirectoryEntry}
use Rattle.fsfs.specs.{Files.Piece, Pieces.{entries_in, is_before}, Whole.file_piece, Reached.{AreReached, LieBefore, NamesIn, WantedAfter}}
use Rattle.filed_laws.proofs.Rising.{same_first}

-- an id is that of one of the first k node revisions
pub record IsInFront (n k : ℕ) (pieces : List Piece) (id : FileId) : Type 0 where
  pub place : ℕ
  pub piece : Piece
  pub there : slice_get pieces place ≡ Some piece
  pub front : place < k
  pub revision : id.revision ≡ n
  pub offset : id.offset ≡ piece.node.id.offset

-- each entry is of an earlier revision, or one of the first k
abbrev pub LeadsBack : ℕ → ℕ → List Piece → List DirectoryEntry → Type 0
LeadsBack n k pieces [] = Unit {0}
LeadsBack n k pieces (entry ∷ entries) = ((entry.id.revision < n) ⊎ IsInFront n k pieces entry.id) × LeadsBack n k pieces entries

-- the entries that come with a node revision
pub record Leads (n k : ℕ) (pieces : List Piece) (piece : Piece) : Type 0 where
  pub entries : List DirectoryEntry
  pub read : entries_in (file_piece piece) ≡ Ok entries
  pub back : LeadsBack n k pieces entries

-- one from the k-th on names what is at an offset
pub record IsNamedFrom (n k : ℕ) (pieces : List Piece) (offset : ℕ) : Type 0 where
  pub place : ℕ
  pub piece : Piece
  pub there : slice_get pieces place ≡ Some piece
  pub behind : k ≤ place
  pub names : (entries : List DirectoryEntry) → entries_in (file_piece piece) ≡ Ok entries → NamesIn n entries offset

-- one of the first k is at an offset
record OneOf (k : ℕ) (pieces : List Piece) (offset : ℕ) : Type 0 where
  place : ℕ
  piece : Piece
  there : slice_get pieces place ≡ Some piece
  front : place < k
  is : offset ≡ piece.node.id.offset

or_so : (a b : Bool) → b ≡ true → (a || b) ≡ true
or_so true b is = refl
or_so false b is = is

both : (a b : Bool) → a ≡ true → b ≡ true → (a && b) ≡ true
both a b is also = cc (is, also)

or_first : (a b : Bool) → a ≡ true → (a || b) ≡ true
or_first a b is = ap (λ t. t || b) is

module _ (n : ℕ) (pieces : List Piece)
    (rises : (j k : ℕ) (piece later : Piece) → slice_get pieces j ≡ Some piece → slice_get pieces k ≡ Some later → j < k → piece.node.id.offset < later.node.id.offset)
    (leads : (k : ℕ) (piece : Piece) → slice_get pieces k ≡ Some piece → Leads n k pieces piece)
    (named : (k : ℕ) (piece : Piece) → slice_get pieces k ≡ Some piece → (suc k ≡ length pieces) ⊎ IsNamedFrom n (suc k) pieces piece.node.id.offset) where
  -- what is wanted before the k-th is read
  record Wants (k : ℕ) (IsWanted : ℕ → Type 0) : Type 0 where
    all : (j : ℕ) (piece : Piece) → j < k → slice_get pieces j ≡ Some piece → (suc j ≡ length pieces) ⊎ IsNamedFrom n k pieces piece.node.id.offset
        → IsWanted piece.node.id.offset
    only : (offset : ℕ) → IsWanted offset → OneOf k pieces offset

  one_place : (j k : ℕ) (piece other : Piece) → slice_get pieces j ≡ Some piece → slice_get pieces k ≡ Some other → j ≡ k → piece ≡ other
  one_place j k piece other is at same = same_first piece other (sym is ∙ (ap (λ (p : ℕ). slice_get pieces p) same ∙ at))

  lie : (k : ℕ) (piece : Piece) (entries : List DirectoryEntry) → slice_get pieces k ≡ Some piece → LeadsBack n k pieces entries
      → LieBefore n piece.node.id.offset entries
  lie k piece [] at back = tt
  lie k piece (entry ∷ entries) at back = (by back.0, lie k piece entries at back.1)
    where
      by : (entry.id.revision < n) ⊎ IsInFront n k pieces entry.id → is_before n piece.node.id.offset entry.id ≡ true
      by (inl older) = or_first (ltb entry.id.revision n) _ (lt-ltb entry.id.revision n older)
      by (inr front) =
          let under : entry.id.offset < piece.node.id.offset = omega (arith, front.offset, rises front.place k front.piece piece front.there at front.front) in
          or_so (ltb entry.id.revision n) _ (both _ _ (eq-eqb entry.id.revision n front.revision) (lt-ltb entry.id.offset piece.node.id.offset under))

  one_named : (k : ℕ) (entries : List DirectoryEntry) (offset : ℕ) → LeadsBack n k pieces entries → NamesIn n entries offset → OneOf k pieces offset
  one_named k [] offset back names = absurd names
  one_named k (entry ∷ entries) offset back (inr names) = one_named k entries offset back.1 names
  one_named k (entry ∷ entries) offset back (inl here) = by back.0
    where
      by : (entry.id.revision < n) ⊎ IsInFront n k pieces entry.id → OneOf k pieces offset
      by (inl older) = absurd (omega (arith, older, here.0))
      by (inr front) = record { place = front.place; piece = front.piece; there = front.there; front = front.front; is = sym here.1 ∙ front.offset }

  after : (k : ℕ) (IsWanted : ℕ → Type 0) (piece : Piece) (at : slice_get pieces k ≡ Some piece) → Wants (suc k) IsWanted
      → Wants k (WantedAfter n piece.node.id.offset (leads k piece at).entries IsWanted)
  after k IsWanted piece at wants = record {
    all = λ j other lt there why. (apart j other lt there, wanted j other lt there why);
    only = λ offset w. still offset w.0 w.1;
  }
    where
      entries : List DirectoryEntry
      entries = (leads k piece at).entries

      apart : (j : ℕ) (other : Piece) → j < k → slice_get pieces j ≡ Some other → other.node.id.offset ≡ piece.node.id.offset → ⊥
      apart j other lt there same = omega (arith, rises j k other piece there at lt, same)

      by_place : (j : ℕ) (other : Piece) → j < k → slice_get pieces j ≡ Some other → (from : IsNamedFrom n k pieces other.node.id.offset)
          → (from.place ≡ k) ⊎ (from.place ≡ k → ⊥) → IsWanted other.node.id.offset ⊎ NamesIn n entries other.node.id.offset
      by_place j other lt there from (inl same) =
          inr (from.names entries (ap (λ (p : Piece). entries_in (file_piece p)) (one_place from.place k from.piece piece from.there at same) ∙ (leads k piece at).read))
      by_place j other lt there from (inr differ) = inl (wants.all j other (omega (arith, lt)) there (inr (record {
        place = from.place;
        piece = from.piece;
        there = from.there;
        behind = omega (arith, from.behind, differ);
        names = from.names;
      })))

      wanted : (j : ℕ) (other : Piece) → j < k → slice_get pieces j ≡ Some other → (suc j ≡ length pieces) ⊎ IsNamedFrom n k pieces other.node.id.offset
          → IsWanted other.node.id.offset ⊎ NamesIn n entries other.node.id.offset
      wanted j other lt there (inl last) = inl (wants.all j other (omega (arith, lt)) there (inl last))
      wanted j other lt there (inr from) = by_place j other lt there from (cases_eq from.place k)

      lower : (offset : ℕ) → (offset ≡ piece.node.id.offset → ⊥) → (one : OneOf (suc k) pieces offset) → (one.place ≡ k) ⊎ (one.place ≡ k → ⊥)
          → OneOf k pieces offset
      lower offset differ one (inl same) =
          absurd (differ (one.is ∙ ap (λ (p : Piece). p.node.id.offset) (one_place one.place k one.piece piece one.there at same)))
      lower offset differ one (inr other) =
          record { place = one.place; piece = one.piece; there = one.there; front = omega (arith, one.front, other); is = one.is }

      still : (offset : ℕ) → (offset ≡ piece.node.id.offset → ⊥) → IsWanted offset ⊎ NamesIn n entries offset → OneOf k pieces offset
      still offset differ (inl was) = let one = wants.only offset was in lower offset differ one (cases_eq one.place k)
      still offset differ (inr names) = one_named k entries offset (leads k piece at).back names

  reach : (k : ℕ) (IsWanted : ℕ → Type 0) → k ≤ length pieces → Wants k IsWanted → AreReached n IsWanted (reverse (take k pieces))
  reach zero IsWanted le wants = λ offset wanted. let one = wants.only offset wanted in omega (arith, one.front)
  reach (suc k) IsWanted le wants = by (slice_get_cases pieces k).1 (λ Wanted lower. reach k Wanted (omega (arith, le)) lower)
    where
      by : ((piece : Piece) × (k < length pieces) × (slice_get pieces k ≡ Some piece) × (get_or pieces k piece ≡ piece)) ⊎ ((length pieces ≤ k) × (slice_get pieces k ≡ None))
          → ((Wanted : ℕ → Type 0) → Wants k Wanted → AreReached n Wanted (reverse (take k pieces)))
          → AreReached n IsWanted (reverse (take (suc k) pieces))
      by (inr past) again = absurd (omega (arith, le, past.0))
      by (inl found) again =
          let piece = found.0 in
          let at : slice_get pieces k ≡ Some piece = found.2 in
          let lead = leads k piece at in
          let one : suc k ≡ k + 1 = omega arith in
          let more : take (suc k) pieces ≡ take k pieces ++ piece ∷ [] =
          ap (λ (m : ℕ). take m pieces) one ∙ (take_more pieces k piece found.1 ∙ ap (λ (p : Piece). take k pieces ++ p ∷ []) found.3) in
          let back : reverse (take (suc k) pieces) ≡ piece ∷ reverse (take k pieces) =
          ap (λ (l : List Piece). reverse l) more ∙ reverse-append (take k pieces) (piece ∷ []) in
          subst (AreReached n IsWanted) (sym back) (
            lead.entries,
            lead.read,
            wants.all k piece (omega arith) at (named k piece at),
            lie k piece lead.entries at lead.back,
            again (WantedAfter n piece.node.id.offset lead.entries IsWanted) (after k IsWanted piece at wants),
          )

  -- the last is the root
  pub all_reached : (k : ℕ) (last : Piece) → suc k ≡ length pieces → slice_get pieces k ≡ Some last
      → AreReached n (λ offset. offset ≡ last.node.id.offset) (reverse pieces)
  all_reached k last end at =
      subst (λ (ps : List Piece). AreReached n (λ offset. offset ≡ last.node.id.offset) (reverse ps)) (take_all (length pieces) pieces (omega arith))
      (reach (length pieces) (λ offset. offset ≡ last.node.id.offset) (omega arith) (record {
        all = λ j piece lt there why. first j piece there why;
        only = λ offset is. record { place = k; piece = last; there = at; front = omega (arith, end); is = is };
      }))
    where
      first : (j : ℕ) (piece : Piece) → slice_get pieces j ≡ Some piece → (suc j ≡ length pieces) ⊎ IsNamedFrom n (length pieces) pieces piece.node.id.offset
          → piece.node.id.offset ≡ last.node.id.offset
      first j piece there (inl same) = ap (λ (p : Piece). p.node.id.offset) (one_place j k piece last there at (omega (arith, same, end)))
      first j piece there (inr from) = absurd (omega (arith, from.behind, slice_get_within pieces from.place from.piece from.there))
