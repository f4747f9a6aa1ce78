-- The last line of a revision file.
use Rattle.std.specs.Prelude.{ℕ, ◌-◌, ◌^◌, List, [], ◌∷◌, ◌++◌, Option, Some, None, Result, Err}
use Rattle.fsfs_text.specs.{declared.fault.FileFault.FileFault, declared.fault.FileFault.TheVariants.Truncated, Numerals.{decimal_of, numeral}, Reading.or_bad}
use Rattle.fsfs_text.specs.{Splits.{split_last, split_once}, Maybe.◌>>=◌}
use Rattle.fsfs_nodes.specs.declared.trailer.Trailer.{Trailer}

-- an empty line, and `<root offset> <changes offset>`
abbrev pub trailer_bytes : Trailer → List ℕ
trailer_bytes trailer =
    10 ∷ (numeral 10 trailer.root ++ 32 ∷ (numeral 10 trailer.changes ++ 10 ∷ []))

unfoldable pub offsets_of : List ℕ → Option Trailer
offsets_of line = do
  (root, changes) ← split_once 32 line
  root ← decimal_of (2 ^ 64 - 1) root
  changes ← decimal_of (2 ^ 64 - 1) changes
  Some (record { root = root; changes = changes })

-- the last line ends the bytes
abbrev pub before_last : List ℕ → List ℕ → Option (List ℕ × List ℕ)
before_last front [] = split_last 10 front
before_last front (b ∷ behind) = None

abbrev pub last_from : Option (List ℕ × List ℕ) → Option (List ℕ × List ℕ)
last_from None = None
last_from (Some p) = before_last p.0 p.1

-- what stands before the last line, without the line feed of the line before it, and the last line
unfoldable pub split_trailer : List ℕ → Option (List ℕ × List ℕ)
split_trailer bytes = last_from (split_last 10 bytes)

abbrev pub said : List ℕ → Option Trailer → Option (List ℕ × Trailer)
said body None = None
said body (Some trailer) = Some (body, trailer)

abbrev pub told : Option (List ℕ × List ℕ) → Result (List ℕ × Trailer) FileFault
told None = Err Truncated
told (Some p) = or_bad (said p.0 (offsets_of p.1))

-- what stands before the empty line at the end, and what the last line says
unfoldable pub trailer_of : List ℕ → Result (List ℕ × Trailer) FileFault
trailer_of bytes = told (split_trailer bytes)
