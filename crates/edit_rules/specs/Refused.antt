-- At which path of the repository a command of an edit is refused.
use Rattle.std.specs.{Prelude.{ℕ, List, Option, Some, None, option_map}, Option.option_or, Result.result_ok}
use Rattle.svnpath.specs.{Paths.PathValue, Texts.joined}
use Rattle.refusals.specs.declared.Refusal.{Refusal}
use Rattle.refusals.specs.declared.Refusal.TheVariants as refusals
use Rattle.wire_edits.specs.{declared.editing.AddedEntry.AddedEntry, declared.editing.EditorCommand.EditorCommand}
use Rattle.wire_edits.specs.declared.editing.EditorCommand.TheVariants.{OpenRoot, DeleteEntry, AddDirectory, AddFile, OpenDirectory, OpenFile}
use Rattle.wire_edits.specs.declared.editing.EditorCommand.TheVariants.{ChangeDirectoryProperty}
use Rattle.edit_rules.specs.{Edits.EditState, Refusing.{open_under, source_path}, Tokens.path_of}

-- the path of a copy's source, if a command names one
abbrev pub path_of_source : List ℕ → Option (List ℕ × ℕ) → Option PathValue
path_of_source name None = None
path_of_source name (Some source) = result_ok (source_path name source.0)

-- what is added is refused at its own path, and a copy at that of its source, unless it would go over
-- what stands there
abbrev pub own_or_source : Refusal → Option PathValue → Option PathValue → Option PathValue
own_or_source refusals.OutOfDate own source = own
own_or_source _ own source = option_or source own

abbrev pub added_at : EditState → AddedEntry → Refusal → Option PathValue
added_at e entry r =
    own_or_source r (result_ok (joined e.path entry.path)) (path_of_source e.name entry.source)

-- The path at which a command is refused: that of the edit, the one that it names, or that of the
-- directory that is open under its token.
abbrev pub refused_at : EditState → EditorCommand → Refusal → Option PathValue
refused_at e (OpenRoot revision token) r = Some e.path
refused_at e (DeleteEntry entry) r = result_ok (joined e.path entry.path)
refused_at e (AddDirectory entry) r = added_at e entry r
refused_at e (AddFile entry) r = added_at e entry r
refused_at e (OpenDirectory entry) r = result_ok (joined e.path entry.path)
refused_at e (OpenFile entry) r = result_ok (joined e.path entry.path)
refused_at e (ChangeDirectoryProperty change) r = option_map path_of (open_under e change.token)
refused_at e _ r = None
