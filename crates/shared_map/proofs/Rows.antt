-- Rows against entries, and one more part.
use Rattle.std.proofs.Common.{◌≡◌, ◌+◌, ℕ, zero, suc, List, [], ◌∷◌, ◌++◌, take, drop, Some, sym, ap, subst, arith, ◌∙◌, option_map}
use Rattle.std.proofs.{lemmas.List.{map-append, append-nil, take-append-drop, take-take, drop-take}, lemmas.Option.none-some}
use Rattle.std.specs.{Prelude.slice_get, List.AllByRecursion, Borrow.Bor, declared.sync.Arc.Arc, declared.vec.Vec.Vec}
use Rattle.shared_map.specs.{Entries.{values, part_entries, all_entries, IsFilled}, Rows.row_entries}
use Rattle.shared_map.proofs.{Copies.{value_at, same_some}, InParts.{entries_append, one_and}, Ordered.all_append}

-- what a row says at a place
pub row_at : {X : Type 0} (rows : List (Bor (List ℕ) × X)) (k : ℕ) (row : Bor (List ℕ) × X) → slice_get rows k ≡ Some row
    → slice_get (row_entries rows) k ≡ Some (row.0.now, row.1)
row_at [] k row is = absurd (none-some row is)
row_at (r ∷ rows) zero row is = ap (option_map (λ row. (row.0.now, row.1))) is
row_at (r ∷ rows) (suc k) row is = row_at rows k row is

pub rows_differ : {X Y : Type 0} (list : List (Arc (List ℕ × X) Y)) (rows : List (Bor (List ℕ) × X)) (k : ℕ) (a : Arc (List ℕ × X) Y) (row : Bor (List ℕ) × X)
    → slice_get list k ≡ Some a → slice_get rows k ≡ Some row → (a.value ≡ (row.0.now, row.1) → ⊥) → values list ≡ row_entries rows → ⊥
rows_differ list rows k a row is at not same = not (same_some _ _ (sym (value_at list k a is) ∙ ap (λ es. slice_get es k) same ∙ row_at rows k row at))

-- the next rows behind the first
pub next : {X : Type 0} (i n : ℕ) (xs : List X) → take (i + n) xs ≡ take i xs ++ take n (drop i xs)
next i n xs =
    sym (take-append-drop i (take (i + n) xs))
    ∙ ap (λ l. l ++ drop i (take (i + n) xs)) (take-take i (i + n) xs (omega arith))
    ∙ ap (λ l. take i xs ++ l) (drop-take i n xs)

pub next_rows : {X : Type 0} (i n : ℕ) (rows : List (Bor (List ℕ) × X)) (es : List (List ℕ × X)) (front : List (Bor (List ℕ) × X)) → front ≡ take n (drop i rows)
    → (es ++ row_entries (take i rows)) ++ row_entries front ≡ es ++ row_entries (take (i + n) rows)
next_rows i n rows [] front is =
    ap (λ l. row_entries (take i rows) ++ row_entries l) is
    ∙ sym (ap row_entries (next i n rows) ∙ map-append (λ row. (row.0.now, row.1)) (take i rows) (take n (drop i rows)))
next_rows i n rows (e ∷ es) front is = ap (λ l. e ∷ l) (next_rows i n rows es front is)

-- all rows
pub all_rows : {X : Type 0} (i : ℕ) (rows : List (Bor (List ℕ) × X)) → row_entries (take i rows) ++ row_entries (drop i rows) ≡ row_entries rows
all_rows i rows = sym (map-append (λ row. (row.0.now, row.1)) (take i rows) (drop i rows)) ∙ ap row_entries (take-append-drop i rows)

-- one more part
module _ {X Y Z V : Type 0} (old new : List (Arc (Vec (Arc X Y) Z) V)) (a : Arc (Vec (Arc X Y) Z) V) (is : new ≡ old ++ a ∷ []) where
  pub more_entries : all_entries new ≡ all_entries old ++ part_entries a.value
  more_entries = ap all_entries is ∙ entries_append old (a ∷ []) ∙ ap (λ l. all_entries old ++ l) (append-nil (part_entries a.value))

  pub more_filled : AllByRecursion IsFilled (values old) → IsFilled a.value → AllByRecursion IsFilled (values new)
  more_filled h k =
      subst (λ ps. AllByRecursion IsFilled (values ps)) (sym is)
      (subst (AllByRecursion IsFilled) (sym (map-append (λ a. a.value) old (a ∷ [])))
      (all_append IsFilled (values old) (a.value ∷ []) h (one_and IsFilled a.value [] k tt)))
