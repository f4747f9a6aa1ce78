-- Plain representations.
use Rattle.std.specs.Prelude.{ℕ, ◌==◌, nat_lt, List, ◌++◌, length, take, drop, codes, Option, Some, None, Result, Ok, Err, if◌then◌else◌}
use Rattle.std.specs.Cmp.Lexicographic.{pointwise}
use Rattle.md5.specs.Md5.{md5}
use Rattle.fsfs_text.specs.{declared.fault.FileFault.FileFault, declared.fault.FileFault.TheVariants.{Truncated, BadLine, Delta, Digest}, Reading.◌>>=◌}
use Rattle.fsfs_text.specs.{Splits.{line_at, without_prefix}, declared.representation.Representation.Representation}

-- `PLAIN`, the bytes, `ENDREP`
abbrev pub body_bytes : List ℕ → List ℕ
body_bytes body = codes "PLAIN\n" ++ body ++ codes "ENDREP\n"

-- the line of a representation that stands at an offset
abbrev pub representation_at : ℕ → ℕ → List ℕ → Representation
representation_at revision offset body =
    record {
      revision = revision;
      offset = offset;
      length = length body;
      size = length body;
      digest = md5 body;
    }

-- the bytes from an offset on
abbrev pub rest_at : ℕ → List ℕ → Result (List ℕ) FileFault
rest_at offset bytes =
    if nat_lt (length bytes) offset then Err Truncated else Ok (drop offset bytes)

-- a representation of another kind than a plain one begins with `DELTA`
abbrev pub of_kind : Option (List ℕ) → FileFault
of_kind (Some rest) = Delta
of_kind None = BadLine

-- what stands behind the first line
unfoldable pub plain_at : List ℕ → Result (List ℕ) FileFault
plain_at bytes =
    line_at bytes >>= λ line. if pointwise ◌==◌ line.0 (codes "PLAIN") then Ok line.1
    else Err (of_kind (without_prefix (codes "DELTA") line.0))

-- what the bytes behind a representation say: its last line, or less
abbrev pub ended_by : List ℕ → List ℕ → Option (List ℕ) → Result (List ℕ) FileFault
ended_by body rest (Some behind) = Ok body
ended_by body rest None = if nat_lt (length rest) 7 then Err Truncated else Err BadLine

-- as many bytes, which `ENDREP` follows
unfoldable pub body_of : ℕ → List ℕ → Result (List ℕ) FileFault
body_of len bytes =
    if nat_lt (length bytes) len then Err Truncated
    else ended_by (take len bytes) (drop len bytes)
    (without_prefix (codes "ENDREP\n") (drop len bytes))

-- as many bytes where the line has this size too, since it is plain
abbrev pub body_of_size : ℕ → ℕ → List ℕ → Result (List ℕ) FileFault
body_of_size size len bytes = if size == len then body_of len bytes else Err BadLine

-- the bytes of the representation that a line names, in the file of its revision
unfoldable pub body_at : List ℕ → Representation → Result (List ℕ) FileFault
body_at bytes representation = do
  rest ← rest_at representation.offset bytes
  rest ← plain_at rest
  body ← body_of_size representation.size representation.length rest
  (if pointwise ◌==◌ (md5 body) representation.digest then Ok body else Err Digest)
