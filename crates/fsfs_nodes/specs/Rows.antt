-- A dump whose keys are all different, by its keys' bytes.
use Rattle.std.specs.{Prelude.{ℕ, List, [], ◌∷◌, Option, Some, None, Result, Ok, Err}, BTreeMap.is_at, Cmp.Lexicographic.slice_cmp, Map.lookup}
use Rattle.std.specs.Ordering.{nat_cmp}
use Rattle.repo_api.specs.Properties.{PropertyList, with_property}
use Rattle.fsfs_text.specs.{declared.fault.FileFault.FileFault, declared.fault.FileFault.TheVariants.BadLine, Reading.◌>>=◌, declared.pair.DumpPair.DumpPair}
use Rattle.fsfs_text.specs.DumpReading.{dump_of}

-- the value of a key
abbrev pub value_at : List ℕ → PropertyList → Option (List ℕ)
value_at key rows = lookup (is_at (slice_cmp nat_cmp key)) rows

-- the rows with one more, unless its key stands there
abbrev pub with_new : PropertyList → DumpPair → Option (List ℕ) → Result PropertyList FileFault
with_new rows pair None = Ok (with_property rows pair.key pair.value)
with_new rows pair (Some value) = Err BadLine

abbrev pub with_row : PropertyList → DumpPair → Result PropertyList FileFault
with_row rows pair = with_new rows pair (value_at pair.key rows)

abbrev pub with_rows : PropertyList → List DumpPair → Result PropertyList FileFault
with_rows rows [] = Ok rows
with_rows rows (pair ∷ pairs) = with_row rows pair >>= λ more. with_rows more pairs

-- the keys and values of a dump, in whatever order they stand
unfoldable pub rows_of : List ℕ → Result PropertyList FileFault
rows_of bytes = dump_of bytes >>= λ pairs. with_rows [] pairs
