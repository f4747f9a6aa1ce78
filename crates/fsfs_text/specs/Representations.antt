-- Lines that say where a representation stands.
use Rattle.std.specs.{Prelude.{ℕ, ◌-◌, ◌^◌, List, ◌∷◌, ◌++◌, Option, Some}, Result.result_ok}
use Rattle.hex.specs.Hex.{encode_lower, decode_sized}
use Rattle.fsfs_text.specs.{Numerals.{decimal_of, numeral}, Splits.split_once, Maybe.◌>>=◌, declared.representation.Representation.Representation}

-- `<revision> <offset> <length> <size> <digest>`
abbrev pub representation_text : Representation → List ℕ
representation_text representation =
    numeral 10 representation.revision ++ 32 ∷ (numeral 10 representation.offset
    ++ 32 ∷ (numeral 10 representation.length ++ 32 ∷ (numeral 10 representation.size
    ++ 32 ∷ encode_lower representation.digest)))

-- the digest that 32 hexadecimal digits spell
abbrev pub digest_of : List ℕ → Option (List ℕ)
digest_of digits = result_ok (decode_sized digits 16)

-- the line that a text spells
unfoldable pub representation_of : List ℕ → Option Representation
representation_of text = do
  (revision, rest) ← split_once 32 text
  (offset, rest) ← split_once 32 rest
  (length, rest) ← split_once 32 rest
  (size, digest) ← split_once 32 rest
  revision ← decimal_of (2 ^ 32 - 1) revision
  offset ← decimal_of (2 ^ 64 - 1) offset
  length ← decimal_of (2 ^ 64 - 1) length
  size ← decimal_of (2 ^ 64 - 1) size
  digest ← digest_of digest
  Some (record {
    revision = revision;
    offset = offset;
    length = length;
    size = size;
    digest = digest;
  })
