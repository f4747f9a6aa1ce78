-- Reading a dump, from left to right.
use Rattle.std.specs.Prelude.{ℕ, zero, suc, ◌+◌, ◌-◌, ◌^◌, ◌==◌, nat_le, List, [], ◌∷◌, length, take, drop, slice_index, codes, Option, Some, None, Result, Ok}
use Rattle.std.specs.{Prelude.{Err, if◌then◌else◌}, Cmp.Lexicographic.pointwise}
use Rattle.fsfs_text.specs.{declared.fault.FileFault.FileFault, declared.fault.FileFault.TheVariants.{Truncated, BadLine}, Numerals.decimal_of}
use Rattle.fsfs_text.specs.{Reading.{or_bad, ◌>>=◌}, Splits.{line_at, split_once}, declared.pair.DumpPair.DumpPair}

-- the number behind a letter and a space
abbrev pub length_behind : ℕ → Option (List ℕ × List ℕ) → Option ℕ
length_behind letter None = None
length_behind letter (Some p) =
    if pointwise ◌==◌ p.0 (letter ∷ []) then decimal_of (2 ^ 64 - 1) p.1 else None

unfoldable pub length_of : ℕ → List ℕ → Option ℕ
length_of letter line = length_behind letter (split_once 32 line)

-- as many bytes, and what stands behind them and a line feed
unfoldable pub text_of : ℕ → List ℕ → Result (List ℕ × List ℕ) FileFault
text_of len bytes =
    if nat_le (length bytes) len then Err Truncated
    else if slice_index bytes len == 10 then Ok (take len bytes, drop (len + 1) bytes)
    else Err BadLine

-- what stands behind a line that says its length
unfoldable pub sized_behind : ℕ → List ℕ → List ℕ → Result (List ℕ × List ℕ) FileFault
sized_behind letter line rest = do
  len ← or_bad (length_of letter line)
  text_of len rest

-- the key whose length the line says, its value, and what stands behind them
unfoldable pub pair_behind : List ℕ → List ℕ → Result (List ℕ × List ℕ × List ℕ) FileFault
pair_behind line rest = do
  (key, rest) ← sized_behind 75 line rest
  (line, rest) ← line_at rest
  (value, rest) ← sized_behind 86 line rest
  Ok (key, value, rest)

-- a pair in front of others
abbrev pub before : DumpPair → Result (List DumpPair) FileFault → Result (List DumpPair) FileFault
before pair (Ok pairs) = Ok (pair ∷ pairs)
before pair (Err f) = Err f

-- nothing stands behind the end
abbrev pub ended : List ℕ → Result (List DumpPair) FileFault
ended [] = Ok []
ended (b ∷ bytes) = Err BadLine

-- the pairs of at most so many bytes
unfoldable pub pairs_within : ℕ → List ℕ → Result (List DumpPair) FileFault
pairs_within zero bytes = Err Truncated
pairs_within (suc n) bytes =
    line_at bytes >>= λ line. if pointwise ◌==◌ line.0 (codes "END") then ended line.1
    else (pair_behind line.0 line.1 >>= λ p. before (record { key = p.0; value = p.1 }) (pairs_within n p.2))

-- the pairs of a dump, which all of the bytes are
abbrev pub dump_of : List ℕ → Result (List DumpPair) FileFault
dump_of bytes = pairs_within (length bytes) bytes
