-- Properties and texts of what is open in an edit.
use Rattle.std.specs.Prelude.{ℕ, List, Option, Some}
use Rattle.items.specs.Values.{ItemValues}
use Rattle.wire_forms.specs.Forms.{◌>>=◌, string_first, list_first, optional_string}
use Rattle.wire_edits.specs.declared.editing.PropertyChange.{PropertyChange}

-- `( token name [ value ] )`
abbrev pub property : ItemValues → Option PropertyChange
property params = do
  (token, rest) ← string_first params
  (name, rest) ← string_first rest
  (value, _) ← list_first rest
  value ← optional_string value
  Some (record { token = token; name = name; value = value })

-- `( token [ checksum ] )`
abbrev pub with_checksum : ItemValues → Option (List ℕ × Option (List ℕ))
with_checksum params = do
  (token, rest) ← string_first params
  (checksum, _) ← list_first rest
  checksum ← optional_string checksum
  Some (token, checksum)

-- `( token bytes )`
abbrev pub chunk : ItemValues → Option (List ℕ × List ℕ)
chunk params = do
  (token, rest) ← string_first params
  (bytes, _) ← string_first rest
  Some (token, bytes)

-- `( token )`
abbrev pub token_alone : ItemValues → Option (List ℕ)
token_alone params = do
  (token, _) ← string_first params
  Some token
