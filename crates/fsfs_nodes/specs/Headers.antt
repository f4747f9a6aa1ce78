-- The lines of a node revision.
use Rattle.std.specs.Prelude.{ℕ, zero, suc, ◌==◌, List, [], ◌∷◌, ◌++◌, length, map, codes, Option, Some, None, Result, Ok, Err, if◌then◌else◌}
use Rattle.std.specs.Cmp.Lexicographic.{pointwise}
use Rattle.fsfs_text.specs.{declared.fault.FileFault.FileFault, declared.fault.FileFault.TheVariants.{Truncated, BadLine}, Reading.{or_bad, ◌>>=◌}}
use Rattle.fsfs_text.specs.Splits.{is_free, line_at, split_once, without_prefix}
use Rattle.fsfs_nodes.specs.declared.header.HeaderLine.{HeaderLine}

-- a name and its value
abbrev pub Line : Type 0
Line = List ℕ × List ℕ

-- `name: value`
abbrev pub line_bytes : List ℕ → List ℕ → List ℕ
line_bytes name value = name ++ 58 ∷ 32 ∷ (value ++ 10 ∷ [])

-- the same where there is a value
abbrev pub optional_line : List ℕ → Option (List ℕ) → List ℕ
optional_line name None = []
optional_line name (Some value) = line_bytes name value

-- a line that the code has read
abbrev pub line_pair : HeaderLine → Line
line_pair line = (line.name.now, line.value.now)

abbrev pub line_pairs : List HeaderLine → List Line
line_pairs lines = map line_pair lines

-- a value stands behind a space, and no NUL in the name
abbrev pub with_name : List ℕ → Option (List ℕ) → Option Line
with_name name None = None
with_name name (Some value) = if is_free 0 name then Some (name, value) else None

abbrev pub named : Option (List ℕ × List ℕ) → Option Line
named None = None
named (Some p) = with_name p.0 (without_prefix (codes " ") p.1)

-- the name and the value of a line
unfoldable pub name_value : List ℕ → Option Line
name_value line = named (split_once 58 line)

-- a line in front of others
abbrev pub before : Line → Result (List Line) FileFault → Result (List Line) FileFault
before line (Ok lines) = Ok (line ∷ lines)
before line (Err f) = Err f

-- a line, and the others; an empty line is the end
abbrev pub with_others : List ℕ → Result (List Line) FileFault → Result (List Line) FileFault
with_others [] others = Ok []
with_others (b ∷ line) others = or_bad (name_value (b ∷ line)) >>= λ first. before first others

-- the lines of at most so many bytes, up to an empty one
unfoldable pub block_within : ℕ → List ℕ → Result (List Line) FileFault
block_within zero bytes = Err Truncated
block_within (suc n) bytes = line_at bytes >>= λ line. with_others line.0 (block_within n line.1)

-- the lines in front, up to an empty one
abbrev pub block_of : List ℕ → Result (List Line) FileFault
block_of bytes = block_within (length bytes) bytes

-- the value of the first line of a name
abbrev pub value_of : List ℕ → List Line → Option (List ℕ)
value_of name [] = None
value_of name (line ∷ lines) =
    if pointwise ◌==◌ line.0 name then Some line.1 else value_of name lines

-- what is read of a value that may be missing
abbrev pub there : {A : Type 0} → Option A → Result (Option A) FileFault
there None = Err BadLine
there (Some x) = Ok (Some x)

abbrev pub optional : {A : Type 0} → (List ℕ → Option A) → Option (List ℕ)
    → Result (Option A) FileFault
optional read None = Ok None
optional read (Some value) = there (read value)

-- what is read of a value that may not be missing
abbrev pub field : {A : Type 0} → (List ℕ → Option A) → Option (List ℕ) → Result A FileFault
field read None = Err BadLine
field read (Some value) = or_bad (read value)
