-- What a reader holds.
use Rattle.std.specs.Prelude.{ℕ, List}

-- the bytes of the stream that belong to no item yet, and how many came before them, as far as a
-- u64 counts
pub record Unread : Type 0 where
  pub place : ℕ
  pub rest : List ℕ
