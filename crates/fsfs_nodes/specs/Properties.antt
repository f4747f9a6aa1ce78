-- The files of properties of revisions.
use Rattle.std.specs.{Prelude.{ℕ, Bool, ◌&&◌, nat_le, List, length, map, Result, Ok, Err, if◌then◌else◌}, List.list_all}
use Rattle.repo_api.specs.{declared.limits.TheConstants.TEXT_LIMIT, Judging.is_property_name, Properties.PropertyList}
use Rattle.fsfs_text.specs.{declared.fault.FileFault.FileFault, declared.fault.FileFault.TheVariants.BadLine, Reading.◌>>=◌, declared.pair.DumpPair.DumpPair}
use Rattle.fsfs_text.specs.Dumps.{dump}
use Rattle.fsfs_nodes.specs.Rows.{rows_of}

abbrev pub row_pair : List ℕ × List ℕ → DumpPair
row_pair row = record { key = row.0; value = row.1 }

-- a dump of the names and values, by the names' bytes
abbrev pub properties_bytes : PropertyList → List ℕ
properties_bytes properties = dump (map row_pair properties)

-- a name has 1 to 255 bytes, and a value as many as a text at most
abbrev pub is_property : List ℕ × List ℕ → Bool
is_property row = is_property_name row.0 && nat_le (length row.1) TEXT_LIMIT

abbrev pub judged : PropertyList → Result PropertyList FileFault
judged rows = if list_all is_property rows then Ok rows else Err BadLine

-- what the file says
unfoldable pub properties_of : List ℕ → Result PropertyList FileFault
properties_of bytes = rows_of bytes >>= λ rows. judged rows
