-- Entries of an edit: where they are, and what they are under.
use Rattle.std.specs.Prelude.{ℕ, List, Option, Some, None}
use Rattle.items.specs.Values.{ItemValues, list, more, none, number}
use Rattle.wire_forms.specs.Forms.{◌>>=◌, number_first, string_first, list_first, optional_number}
use Rattle.wire_edits.specs.{declared.editing.AddedEntry.AddedEntry, declared.editing.OpenedEntry.OpenedEntry, declared.editing.DeletedEntry.DeletedEntry}
use Rattle.wire_edits.specs.declared.editing.AbsentEntry.{AbsentEntry}

-- `path parent token`, and what stands behind them
abbrev pub place : ItemValues → Option (List ℕ × List ℕ × List ℕ × ItemValues)
place params = do
  (path, rest) ← string_first params
  (parent, rest) ← string_first rest
  (token, rest) ← string_first rest
  Some (path, parent, token, rest)

-- `[ copy-path copy-rev ]`: what is in the list
abbrev pub optional_source : ItemValues → Option (Option (List ℕ × ℕ))
optional_source none = Some None
optional_source items = do
  (path, rest) ← string_first items
  (revision, _) ← number_first rest
  Some (Some (path, revision))

-- `( path parent token [ copy-path copy-rev ] )`
abbrev pub added_entry_of : ItemValues → Option AddedEntry
added_entry_of params = do
  (path, parent, token, rest) ← place params
  (source, _) ← list_first rest
  source ← optional_source source
  Some (record { path = path; parent = parent; token = token; source = source })

-- `[ rev ]` in front; a bare number is also read
abbrev pub any_revision_first : ItemValues → Option (Option ℕ)
any_revision_first (more (list items) rest) = optional_number items
any_revision_first (more (number n) rest) = Some (Some n)
any_revision_first _ = None

-- `( path parent token [ rev ] )`
abbrev pub opened_entry_of : ItemValues → Option OpenedEntry
opened_entry_of params = do
  (path, parent, token, rest) ← place params
  revision ← any_revision_first rest
  Some (record { path = path; parent = parent; token = token; revision = revision })

-- `( path [ rev ] parent )`
abbrev pub deleted_entry_of : ItemValues → Option DeletedEntry
deleted_entry_of params = do
  (path, rest) ← string_first params
  (revision, rest) ← list_first rest
  revision ← optional_number revision
  (parent, _) ← string_first rest
  Some (record { path = path; parent = parent; revision = revision })

-- `( path parent )`
abbrev pub absent : ItemValues → Option AbsentEntry
absent params = do
  (path, rest) ← string_first params
  (parent, _) ← string_first rest
  Some (record { path = path; parent = parent })
