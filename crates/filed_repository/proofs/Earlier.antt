-- What the tables of a history keep names no later revisions.
use Rattle.std.proofs.Common.{◌≡◌, ◌≤◌, ◌<◌, ℕ, zero, suc, List, [], ◌∷◌, ◌++◌, take, length, Some, Option, refl, sym, ap, subst, ◌∙◌, arith}
use Rattle.std.proofs.{lemmas.List.{length-take, take_all}, lemmas.Option.{none-some, same_Some}}
use Rattle.std.specs.{Prelude.{IsSomeAnd, Ok, option_and_then, slice_get}, Result.result_ok}
use Rattle.repo_api.specs.States.{ChangeMap}
use Rattle.noderevs.specs.declared.node_rev.Block.{Block}
use Rattle.fsfs_nodes.specs.declared.change.FileChange.{FileChange}
use Rattle.fsfs.specs.{Pieces.revision_of, declared.piece.FilePiece.FilePiece}
use Rattle.filed_trees.specs.{Changes.revision_in, Readable.IsReadableFile, Tables.HasRows, declared.table.Table.Table}
use Rattle.filed_laws.specs.Earlier.{AreEarlierLines}
use Rattle.filed_laws.proofs.Reading.{read_earlier}
use Rattle.filed_repository.specs.Histories.{ComesFirst, ComesNext, History, IsHistory, first}

there : {X : Type 0} (xs : List X) (n : ℕ) → n < length xs → (x : X) × (slice_get xs n ≡ Some x)
there [] n lt = absurd (omega (arith, lt))
there (x ∷ xs) zero lt = (x, refl)
there (x ∷ xs) (suc n) lt = there xs n (omega (arith, lt))

take_more : {X : Type 0} (xs : List X) (n : ℕ) (x : X) → slice_get xs n ≡ Some x → take (suc n) xs ≡ take n xs ++ x ∷ []
take_more [] n x at = absurd (none-some x at)
take_more (y ∷ xs) zero x at = ap (λ z. z ∷ []) (same_Some y x at)
take_more (y ∷ xs) (suc n) x at = ap (λ l. y ∷ l) (take_more xs n x at)

module _ (h : History) (is : IsHistory h) where
  -- the table of a revision has the rows of what its file says
  rows_at : (n : ℕ) (file : List ℕ) (table : Table) (pieces : List FilePiece) (said : List FileChange) → slice_get h.files n ≡ Some file
      → slice_get h.tables n ≡ Some table → revision_of n file ≡ Ok (pieces, said) → HasRows pieces table
  unfolding revision_in
  rows_at n file table pieces said at_file at_table says =
      subst (λ (o : Option (List FilePiece × List FileChange)). IsSomeAnd o (λ s. HasRows s.0 table))
      (ap (λ (o : Option (List ℕ)). option_and_then (λ f. result_ok (revision_of n f)) o) at_file ∙ ap (λ r. result_ok r) says)
      (is.all.rows n table at_table)

  -- what is read of the next revision
  record IsNextSaid (n : ℕ) (file : List ℕ) : Type 0 where
    pieces : List FilePiece
    said : List FileChange
    says : revision_of n file ≡ Ok (pieces, said)
    readable : IsReadableFile (take n h.files ++ file ∷ []) (take n h.tables) pieces said

  next_said : (n : ℕ) (file : List ℕ) (block : Block) (change : ChangeMap) → n < length h.files → slice_get h.files n ≡ Some file
      → slice_get h.blocks n ≡ Some block → slice_get h.changes n ≡ Some change → IsNextSaid n file
  next_said zero file block change lt at_file at_block at_change =
      let begins : ComesFirst file block change = is.begins file block change at_file at_block at_change in record {
        pieces = begins.pieces;
        said = begins.said;
        says = begins.says;
        readable = begins.readable;
      }
  next_said (suc m) file block change lt at_file at_block at_change =
      let next : ComesNext (first (suc m) h) file block change = is.next (suc m) file block change (omega arith) at_file at_block at_change in
      let long : length (take (suc m) h.files) ≡ suc m = length-take (suc m) h.files ∙ omega (arith, lt) in record {
        pieces = next.pieces;
        said = next.said;
        says = subst (λ n. revision_of n file ≡ Ok (next.pieces, next.said)) long next.says;
        readable = next.readable;
      }

  -- for the first so many revisions
  first_earlier : (n : ℕ) → n ≤ length h.files → AreEarlierLines (take n h.tables)
  first_earlier zero le = λ id. tt
  first_earlier (suc n) le =
      let file = there h.files n (omega (arith, le)) in
      let block = there h.blocks n (omega (arith, le, is.all.all)) in
      let table = there h.tables n (omega (arith, le, is.all.all, is.all.tabled)) in
      let change = there h.changes n (omega (arith, le, is.all.all, is.all.listed)) in
      let next = next_said n file.0 block.0 change.0 (omega (arith, le)) file.1 block.1 change.1 in
      let long : length (take n h.files) ≡ n = length-take n h.files ∙ omega (arith, le) in
      let says : revision_of (length (take n h.files)) file.0 ≡ Ok (next.pieces, next.said) =
      subst (λ m. revision_of m file.0 ≡ Ok (next.pieces, next.said)) (sym long) next.says in
      subst AreEarlierLines (sym (take_more h.tables n table.0 table.1))
      (read_earlier (take n h.files) (take n h.blocks) (take n h.tables) (take n h.changes) file.0 (is.said n (omega (arith, le)))
      (first_earlier n (omega (arith, le))) next.pieces next.said table.0 says next.readable
      (rows_at n file.0 table.0 next.pieces next.said file.1 table.1 next.says))

  pub earlier_lines : AreEarlierLines h.tables
  earlier_lines = subst AreEarlierLines (take_all (length h.files) h.tables (omega (arith, is.all.all, is.all.tabled)))
      (first_earlier (length h.files) (omega arith))
