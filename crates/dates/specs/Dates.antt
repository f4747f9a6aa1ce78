-- Dates as the protocol and the revision properties have them.
use Rattle.std.specs.Prelude.{◌≡◌, ℕ, ◌*◌, pos, List, [], ◌∷◌, ◌++◌, Some, false}
use Rattle.jiff.specs.{Words.{civil_nanos, datetime_text}, Types.DateTime}

-- The civil date and time of the moment in UTC, `YYYY-MM-DDThh:mm:ss.uuuuuuZ`. A moment is a count
-- of
-- microseconds since the beginning of 1970.
abbrev pub IsDateText : ℕ → List ℕ → Type 0
IsDateText moment text =
    (date : DateTime) × (civil_nanos date ≡ pos (moment * 1000))
    × (text ≡ datetime_text false 84 (Some 6) date ++ 90 ∷ [])
