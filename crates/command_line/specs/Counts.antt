-- How many sessions a command line asks for.
use Rattle.std.specs.{Prelude.{◌≡◌, ◌≤◌, ℕ, List}, Str.Parse.{digits_value, without_leading_plus}}

-- a count from 1 to so many
abbrev pub IsWithin : ℕ → ℕ → Type 0
IsWithin most count = (1 ≤ count) × (count ≤ most)

-- the count that a word is in decimal digits
abbrev pub IsCount : List ℕ → ℕ → Type 0
IsCount word count = count ≡ digits_value 10 (without_leading_plus word)
