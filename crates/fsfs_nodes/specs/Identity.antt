-- The file `uuid`.
use Rattle.std.specs.{Prelude.{ℕ, ◌==◌, List, [], ◌∷◌, ◌++◌, length, Option, None, option_map, Result, if◌then◌else◌}, Int.{to_be_bytes, from_be_bytes, w128}}
use Rattle.uuid.specs.Text.{hyphenated_text, lower, parsed}
use Rattle.fsfs_text.specs.{declared.fault.FileFault.FileFault, Reading.{or_bad, ◌>>=◌}}
use Rattle.fsfs_nodes.specs.Current.{line_alone}

-- the text of a repository's 128 bits: `8-4-4-4-12` lower-case hexadecimal digits, and a line feed
abbrev pub uuid_bytes : ℕ → List ℕ
uuid_bytes uuid = hyphenated_text lower (to_be_bytes w128 uuid) ++ 10 ∷ []

-- the 128 bits that a line of 36 bytes spells
unfoldable pub uuid_line : List ℕ → Option ℕ
uuid_line line = if length line == 36 then option_map (from_be_bytes w128) (parsed line) else None

-- what the file says
unfoldable pub uuid_of : List ℕ → Result ℕ FileFault
uuid_of bytes = line_alone bytes >>= λ line. or_bad (uuid_line line)
