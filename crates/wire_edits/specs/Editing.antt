-- The commands of an edit, as the items that spell them.
use Rattle.std.specs.{Prelude.{ℕ, Bool, ◌||◌, List, [], ◌∷◌, Option, Some, option_map, ok_or, Result, Err, codes}, Option.option_map_or}
use Rattle.items.specs.Values.{ItemValue, ItemValues}
use Rattle.wire_forms.specs.{Forms.{◌>>=◌, is_name, command_form, number_first, string_first, list_first, optional_number}, Names.named}
use Rattle.wire_forms.specs.{declared.fault.CommandFault.CommandFault, declared.fault.CommandFault.TheVariants.{UnknownName, BadParameters}}
use Rattle.wire_edits.specs.{Places.{added_entry_of, opened_entry_of, deleted_entry_of, absent}, Texts.{property, with_checksum, chunk, token_alone}}
use Rattle.wire_edits.specs.{declared.editing.EditorCommand.EditorCommand, declared.editing.EditorCommand.TheVariants.{TargetRevision, OpenRoot, DeleteEntry}}
use Rattle.wire_edits.specs.declared.editing.EditorCommand.TheVariants.{AddDirectory, AddFile, OpenDirectory, OpenFile, AbsentDirectory, AbsentFile}
use Rattle.wire_edits.specs.declared.editing.EditorCommand.TheVariants.{ChangeDirectoryProperty, ChangeFileProperty, ApplyTextDelta, TextDeltaChunk}
use Rattle.wire_edits.specs.declared.editing.EditorCommand.TheVariants.{TextDeltaEnd, CloseDirectory, CloseFile, CloseEdit, AbortEdit}
use Rattle.wire_edits.specs.declared.editing.CommandName.{CommandName}
use Rattle.wire_edits.specs.declared.editing.CommandName.TheVariants as names

-- ---- names

-- the names of the commands of an edit, as they are sent
abbrev pub editor_names : List (List ℕ × CommandName)
editor_names =
    (codes "target-rev", names.TargetRevision)
    ∷ (codes "open-root", names.OpenRoot)
    ∷ (codes "delete-entry", names.DeleteEntry)
    ∷ (codes "add-dir", names.AddDirectory)
    ∷ (codes "open-dir", names.OpenDirectory)
    ∷ (codes "change-dir-prop", names.ChangeDirectoryProperty)
    ∷ (codes "close-dir", names.CloseDirectory)
    ∷ (codes "absent-dir", names.AbsentDirectory)
    ∷ (codes "add-file", names.AddFile)
    ∷ (codes "open-file", names.OpenFile)
    ∷ (codes "change-file-prop", names.ChangeFileProperty)
    ∷ (codes "apply-textdelta", names.ApplyTextDelta)
    ∷ (codes "textdelta-chunk", names.TextDeltaChunk)
    ∷ (codes "textdelta-end", names.TextDeltaEnd)
    ∷ (codes "close-file", names.CloseFile)
    ∷ (codes "absent-file", names.AbsentFile)
    ∷ (codes "close-edit", names.CloseEdit)
    ∷ (codes "abort-edit", names.AbortEdit)
    ∷ []

-- the command of an edit that has this name
abbrev pub editor_command_name : List ℕ → Option CommandName
editor_command_name = named editor_names

-- ---- parameters

-- `( rev )`
abbrev pub target_revision : ItemValues → Option EditorCommand
target_revision params = do
  (revision, _) ← number_first params
  Some (TargetRevision revision)

-- `( [ rev ] token )`
abbrev pub open_root : ItemValues → Option EditorCommand
open_root params = do
  (revision, rest) ← list_first params
  revision ← optional_number revision
  (token, _) ← string_first rest
  Some (OpenRoot revision token)

-- the command of a name and its parameters, if they are of its form
abbrev pub editor_command_with : CommandName → ItemValues → Option EditorCommand
editor_command_with names.TargetRevision params = target_revision params
editor_command_with names.OpenRoot params = open_root params
editor_command_with names.DeleteEntry params = option_map DeleteEntry (deleted_entry_of params)
editor_command_with names.AddDirectory params = option_map AddDirectory (added_entry_of params)
editor_command_with names.OpenDirectory params = option_map OpenDirectory (opened_entry_of params)
editor_command_with names.ChangeDirectoryProperty params =
    option_map ChangeDirectoryProperty (property params)
editor_command_with names.CloseDirectory params = option_map CloseDirectory (token_alone params)
editor_command_with names.AbsentDirectory params = option_map AbsentDirectory (absent params)
editor_command_with names.AddFile params = option_map AddFile (added_entry_of params)
editor_command_with names.OpenFile params = option_map OpenFile (opened_entry_of params)
editor_command_with names.ChangeFileProperty params = option_map ChangeFileProperty (property params)
editor_command_with names.ApplyTextDelta params =
    option_map (λ p. ApplyTextDelta p.0 p.1) (with_checksum params)
editor_command_with names.TextDeltaChunk params = option_map (λ p. TextDeltaChunk p.0 p.1) (chunk params)
editor_command_with names.TextDeltaEnd params = option_map TextDeltaEnd (token_alone params)
editor_command_with names.CloseFile params = option_map (λ p. CloseFile p.0 p.1) (with_checksum params)
editor_command_with names.AbsentFile params = option_map AbsentFile (absent params)
editor_command_with names.CloseEdit params = Some CloseEdit
editor_command_with names.AbortEdit params = Some AbortEdit

-- ---- items

-- the command of a name and its parameters, or why there is none
abbrev pub editor_command_named : List ℕ → ItemValues → Result EditorCommand CommandFault
editor_command_named name params =
    option_map_or (λ known. ok_or (editor_command_with known params) BadParameters)
    (editor_command_name name) (Err UnknownName)

-- the command of an edit that an item is, or why it is none
abbrev pub editor_command : ItemValue → Result EditorCommand CommandFault
editor_command item =
    option_map_or (λ form. editor_command_named form.0 form.1) (command_form item) (Err BadParameters)

-- ---- an edit that has failed

-- the commands that end an edit
abbrev pub is_last : List ℕ → Bool
is_last name = is_name name (codes "abort-edit") || is_name name (codes "close-edit")

-- whether a command that is read by its name alone ends an edit, if the item is a command
abbrev pub ends_edit : ItemValue → Option Bool
ends_edit item = option_map (λ form. is_last form.0) (command_form item)
