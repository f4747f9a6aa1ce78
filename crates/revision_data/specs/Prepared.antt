-- The note of an edit in the changes of a transaction: room for it, and what it leaves there.
use Rattle.std.specs.{Prelude.{◌≡◌, Bool, true, false, not, is_some, Option, Some, None}, FinMap.get}
use Rattle.svnpath.specs.Paths.{PathValue}
use Rattle.repo_api.specs.{Changes.{after_add, after_delete, after_property, after_text, noted, or_modified}, States.{ChangeMap, changes_of}}
use Rattle.repo_api.specs.{declared.change.Change.Change, declared.edit.EditOp.EditOp}
use Rattle.repo_api.specs.declared.edit.EditOp.TheVariants.{AddDirectory, AddFile, Copy, Replace, Delete, SetProperty, RemoveProperty, SetText}
use Rattle.revision_data.specs.declared.txn_changes.Note.{Note}

-- where the edit is
abbrev pub path_of : EditOp → PathValue
path_of (AddDirectory p) = p
path_of (AddFile p) = p
path_of (Copy source p) = p
path_of (Replace source p) = p
path_of (Delete p) = p
path_of (SetProperty p name value) = p
path_of (RemoveProperty p name) = p
path_of (SetText p text) = p

-- the change at the edit's path after it, by the change there before
abbrev pub change_after : EditOp → Option Change → Option Change
change_after (AddDirectory p) o = Some (after_add None o)
change_after (AddFile p) o = Some (after_add None o)
change_after (Copy source p) o = Some (after_add (Some source) o)
change_after (Replace source p) o = Some (after_add (Some source) (after_delete o))
change_after (Delete p) o = after_delete o
change_after (SetProperty p name value) o = Some (after_property o)
change_after (RemoveProperty p name) o = Some (after_property o)
change_after (SetText p text) o = Some (after_text o)

-- whether no change is left beneath the edit's path
abbrev pub prunes : EditOp → Bool
prunes (AddDirectory p) = false
prunes (AddFile p) = false
prunes (Copy source p) = false
prunes (Replace source p) = true
prunes (Delete p) = true
prunes (SetProperty p name value) = false
prunes (RemoveProperty p name) = false
prunes (SetText p text) = false

-- the note has what the edit leaves at its path, and there is room for it: a change, if only that of
-- an entry modified in nothing where none was before
pub record IsPrepared (op : EditOp) (before : ChangeMap) (note : Note) (now : ChangeMap) : Type 0 where
  pub change : note.change ≡ change_after op (get before (path_of op))
  pub made : note.made ≡ not (is_some (get before (path_of op)))
  pub room : (q : PathValue) → get now q
      ≡ noted (changes_of before) (path_of op) (or_modified (get before (path_of op))) q
