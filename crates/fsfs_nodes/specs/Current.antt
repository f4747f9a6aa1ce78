-- The file `current`: the youngest revision, and in format 2 the ids that come next.
use Rattle.std.specs.Prelude.{◌<◌, ◌≤◌, ℕ, ◌+◌, ◌-◌, ◌*◌, ◌^◌, nat_le, List, [], ◌∷◌, ◌++◌, length, Option, Some, None, Result, Ok, Err, if◌then◌else◌}
use Rattle.fsfs_text.specs.{declared.fault.FileFault.FileFault, declared.fault.FileFault.TheVariants.BadLine, Numerals.{number_of, numeral}, Reading.or_bad}
use Rattle.fsfs_text.specs.{Splits.{line_at, split_once}, Maybe.◌>>=◌, declared.format.Format.Format, declared.format.Format.TheVariants.{Two, Three}}
use Rattle.fsfs_text.specs.declared.format.Layout.{Layout}
use Rattle.fsfs_text.specs.Reading as reading
use Rattle.fsfs_nodes.specs.{declared.current.Current.Current, declared.current.NextIds.NextIds}

-- what follows the youngest: in format 2 the ids that come next, in base 36
abbrev pub ids_bytes : Option NextIds → List ℕ
ids_bytes None = 10 ∷ []
ids_bytes (Some ids) = 32 ∷ (numeral 36 ids.node ++ 32 ∷ (numeral 36 ids.copy ++ 10 ∷ []))

-- `<youngest> <next node id> <next copy id>`, or `<youngest>`
abbrev pub current_bytes : Current → List ℕ
current_bytes current = numeral 10 current.youngest ++ ids_bytes current.ids

-- an id that comes next has 24 digits at most, and is below (youngest + 1) * 2^64
unfoldable pub next_of : ℕ → List ℕ → Option ℕ
next_of youngest text =
    if nat_le (length text) 24 then number_of 36 ((youngest + 1) * 2 ^ 64 - 1) text else None

-- what the line says in format 2; revisions are 0 to 262,143
unfoldable pub line_of_two : List ℕ → Option Current
line_of_two line = do
  (youngest, rest) ← split_once 32 line
  (node, copy) ← split_once 32 rest
  youngest ← number_of 10 262143 youngest
  node ← next_of youngest node
  copy ← next_of youngest copy
  Some (record { format = Two; youngest = youngest; ids = Some (record { node = node; copy = copy }) })

-- the first word of a line that was split at its first space, if it has one
abbrev pub first_word : List ℕ → Option (List ℕ × List ℕ) → List ℕ
first_word line None = line
first_word line (Some p) = p.0

-- and in format 3, where further words are skipped
unfoldable pub line_of_three : Layout → List ℕ → Option Current
line_of_three layout line = do
  youngest ← number_of 10 262143 (first_word line (split_once 32 line))
  Some (record { format = Three layout; youngest = youngest; ids = None })

abbrev pub current_line : Format → List ℕ → Option Current
current_line Two line = line_of_two line
current_line (Three layout) line = line_of_three layout line

-- one line, which ends the file
abbrev pub only_line : List ℕ × List ℕ → Result (List ℕ) FileFault
only_line (line, []) = Ok line
only_line (line, b ∷ behind) = Err BadLine

abbrev pub line_alone : List ℕ → Result (List ℕ) FileFault
line_alone bytes = reading.◌>>=◌ (line_at bytes) only_line

-- what the file says in a folder of the format
unfoldable pub current_of : Format → List ℕ → Result Current FileFault
current_of format bytes =
    reading.◌>>=◌ (line_alone bytes) (λ line. or_bad (current_line format line))

-- what the file can say: in format 2 ids within their limit, in format 3 none
pub record NextFits (youngest : ℕ) (ids : NextIds) : Type 0 where
  pub node : ids.node < (youngest + 1) * 2 ^ 64
  pub copy : ids.copy < (youngest + 1) * 2 ^ 64

abbrev pub IdsFit : Format → ℕ → Option NextIds → Type 0
IdsFit Two youngest None = ⊥
IdsFit Two youngest (Some ids) = NextFits youngest ids
IdsFit (Three layout) youngest None = Unit {0}
IdsFit (Three layout) youngest (Some ids) = ⊥

pub record CurrentFits (current : Current) : Type 0 where
  pub youngest : current.youngest ≤ 262143
  pub ids : IdsFit current.format current.youngest current.ids
