-- Rows: names that are lent, with values.
use Rattle.std.specs.{Prelude.{ℕ, List, map}, Borrow.Bor}

-- what rows say
abbrev pub row_entries : {X : Type 0} → List (Bor (List ℕ) × X) → List (List ℕ × X)
row_entries = map (λ row. (row.0.now, row.1))
