-- The bytes of a dump.
use Rattle.std.specs.{Prelude.{ℕ, List, [], ◌∷◌, ◌++◌, length, codes}, List.flat_map}
use Rattle.fsfs_text.specs.{Numerals.numeral, declared.pair.DumpPair.DumpPair}

-- a line with a letter and the length, and a line with the text
abbrev pub sized : ℕ → List ℕ → List ℕ
sized letter text = letter ∷ 32 ∷ (numeral 10 (length text) ++ 10 ∷ (text ++ 10 ∷ []))

-- `K`, the key, `V` and the value
abbrev pub pair_bytes : DumpPair → List ℕ
pair_bytes pair = sized 75 pair.key ++ sized 86 pair.value

-- the pairs, and `END`
abbrev pub dump : List DumpPair → List ℕ
dump pairs = flat_map pair_bytes pairs ++ codes "END\n"
