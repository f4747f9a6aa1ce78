-- The parts round the first byte that passes a test.
use Rattle.std.specs.{Prelude.{◌≡◌, ℕ, ◌<◌, Bool, List, length}, List.{position_or_len, before_first, after_first}}

-- no byte passes
abbrev pub IsWithout : (ℕ → Bool) → List ℕ → Type 0
IsWithout test bytes = position_or_len test bytes ≡ length bytes

-- a byte passes, and these stand before and behind the first that does
pub record IsSplitAtFirst (test : ℕ → Bool) (bytes before after : List ℕ) : Type 0 where
  pub within : position_or_len test bytes < length bytes
  pub before_it : before ≡ before_first test bytes
  pub after_it : after ≡ after_first test bytes
