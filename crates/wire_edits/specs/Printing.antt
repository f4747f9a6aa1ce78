-- The items that commands of an edit are sent as.
use Rattle.std.specs.Prelude.{ℕ, List, Option, Some, None, codes}
use Rattle.items.specs.Values.{both, ItemValue, ItemValues, list, more, none, number, only, string, word}
use Rattle.wire_edits.specs.{declared.editing.AbsentEntry.AbsentEntry, declared.editing.AddedEntry.AddedEntry, declared.editing.EditorCommand.EditorCommand}
use Rattle.wire_edits.specs.{declared.editing.DeletedEntry.DeletedEntry, declared.editing.EditorCommand.TheVariants.{TargetRevision, OpenRoot, DeleteEntry}}
use Rattle.wire_edits.specs.declared.editing.EditorCommand.TheVariants.{AddDirectory, AddFile, OpenDirectory, OpenFile, AbsentDirectory, AbsentFile}
use Rattle.wire_edits.specs.declared.editing.EditorCommand.TheVariants.{ChangeDirectoryProperty, ChangeFileProperty, ApplyTextDelta, TextDeltaChunk}
use Rattle.wire_edits.specs.declared.editing.EditorCommand.TheVariants.{TextDeltaEnd, CloseDirectory, CloseFile, CloseEdit, AbortEdit}
use Rattle.wire_edits.specs.{declared.editing.OpenedEntry.OpenedEntry, declared.editing.PropertyChange.PropertyChange}

-- `[ rev ]`
abbrev pub revision_item : Option ℕ → ItemValue
revision_item None = list none
revision_item (Some n) = list (only (number n))

-- `[ string ]`
abbrev pub string_item : Option (List ℕ) → ItemValue
string_item None = list none
string_item (Some s) = list (only (string s))

-- `[ copy-path copy-rev ]`
abbrev pub source_item : Option (List ℕ × ℕ) → ItemValue
source_item None = list none
source_item (Some source) = list (both (string source.0) (number source.1))

-- `[ rev ] token`
abbrev pub root_items : Option ℕ → List ℕ → ItemValues
root_items revision token = both (revision_item revision) (string token)

-- `path [ rev ] parent`
abbrev pub deleted_items : DeletedEntry → ItemValues
deleted_items e = more (string e.path) (root_items e.revision e.parent)

-- `path parent token` in front of what stands behind them
abbrev pub place_items : List ℕ → List ℕ → List ℕ → ItemValue → ItemValues
place_items path parent token last =
    more (string path) (more (string parent) (both (string token) last))

-- `path parent token [ copy-path copy-rev ]`
abbrev pub added_items : AddedEntry → ItemValues
added_items e = place_items e.path e.parent e.token (source_item e.source)

-- `path parent token [ rev ]`
abbrev pub opened_items : OpenedEntry → ItemValues
opened_items e = place_items e.path e.parent e.token (revision_item e.revision)

-- `token name [ value ]`
abbrev pub property_items : PropertyChange → ItemValues
property_items p = more (string p.token) (both (string p.name) (string_item p.value))

-- `path parent`
abbrev pub absent_items : AbsentEntry → ItemValues
absent_items e = both (string e.path) (string e.parent)

-- `token [ checksum ]`
abbrev pub checksum_items : List ℕ → Option (List ℕ) → ItemValues
checksum_items token checksum = both (string token) (string_item checksum)

-- `( name ( params ) )`
abbrev pub command : List ℕ → ItemValues → ItemValue
command name params = list (both (word name) (list params))

-- the item that a command is sent as
abbrev pub command_item : EditorCommand → ItemValue
command_item (TargetRevision n) = command (codes "target-rev") (only (number n))
command_item (OpenRoot revision token) = command (codes "open-root") (root_items revision token)
command_item (DeleteEntry e) = command (codes "delete-entry") (deleted_items e)
command_item (AddDirectory e) = command (codes "add-dir") (added_items e)
command_item (AddFile e) = command (codes "add-file") (added_items e)
command_item (OpenDirectory e) = command (codes "open-dir") (opened_items e)
command_item (OpenFile e) = command (codes "open-file") (opened_items e)
command_item (AbsentDirectory e) = command (codes "absent-dir") (absent_items e)
command_item (AbsentFile e) = command (codes "absent-file") (absent_items e)
command_item (ChangeDirectoryProperty p) = command (codes "change-dir-prop") (property_items p)
command_item (ChangeFileProperty p) = command (codes "change-file-prop") (property_items p)
command_item (ApplyTextDelta token checksum) =
    command (codes "apply-textdelta") (checksum_items token checksum)
command_item (TextDeltaChunk token bytes) =
    command (codes "textdelta-chunk") (both (string token) (string bytes))
command_item (TextDeltaEnd token) = command (codes "textdelta-end") (only (string token))
command_item (CloseDirectory token) = command (codes "close-dir") (only (string token))
command_item (CloseFile token checksum) =
    command (codes "close-file") (checksum_items token checksum)
command_item CloseEdit = command (codes "close-edit") none
command_item AbortEdit = command (codes "abort-edit") none
