-- The changes of a transaction: its edits folded, path by path.
use Rattle.std.specs.Prelude.{true, false, Option, Some, None, if◌then◌else◌}
use Rattle.svnpath.specs.Paths.{is_at_or_under, PathValue, same_path}
use Rattle.repo_api.specs.{declared.change.Action.Action, declared.change.Action.TheVariants.{Add, Delete as Gone, Replace, Modify}}
use Rattle.repo_api.specs.{declared.change.Change.Change, declared.change.Source.Source, declared.edit.EditOp.EditOp}
use Rattle.repo_api.specs.declared.edit.EditOp.TheVariants.{AddDirectory, AddFile, Copy, Replace, Delete, SetProperty, RemoveProperty, SetText}

abbrev pub Changes : Type 0
Changes = PathValue → Option Change

abbrev pub plain_change : Action → Option Source → Change
plain_change action source =
    record { action = action; text = false; properties = false; source = source }

-- added where nothing was changed yet, replaced where something was deleted
abbrev pub after_add : Option Source → Option Change → Change
after_add source None = plain_change Add source
after_add source (Some c) = plain_change Replace source

-- the change that a delete leaves, by the action before it: none after an add, else a delete
abbrev pub after_delete_of : Action → Option Change
after_delete_of Add = None
after_delete_of Gone = Some (plain_change Gone None)
after_delete_of Replace = Some (plain_change Gone None)
after_delete_of Modify = Some (plain_change Gone None)

abbrev pub after_delete : Option Change → Option Change
after_delete None = Some (plain_change Gone None)
after_delete (Some c) = after_delete_of c.action

-- modified where nothing was changed yet
abbrev pub or_modified : Option Change → Change
or_modified None = plain_change Modify None
or_modified (Some c) = c

abbrev pub after_property : Option Change → Change
after_property before = record (or_modified before) { properties = true }

abbrev pub after_text : Option Change → Change
after_text before = record (or_modified before) { text = true }

-- the changes with this one at p
abbrev pub noted : Changes → PathValue → Change → Changes
noted cs p c q = if same_path p q then Some c else cs q

-- the changes after a delete of p: none is left beneath it
abbrev pub noted_delete : Changes → PathValue → Changes
noted_delete cs p q =
    if same_path p q then after_delete (cs q) else (if is_at_or_under q p then None else cs q)

-- the changes after a copy to p
abbrev pub noted_copy : Source → Changes → PathValue → Changes
noted_copy source cs p = noted cs p (after_add (Some source) (cs p))

-- the changes after one edit more
abbrev pub changes_after : Changes → EditOp → Changes
changes_after cs (AddDirectory p) = noted cs p (after_add None (cs p))
changes_after cs (AddFile p) = noted cs p (after_add None (cs p))
changes_after cs (Copy source p) = noted_copy source cs p
changes_after cs (Replace source p) = noted_copy source (noted_delete cs p) p
changes_after cs (Delete p) = noted_delete cs p
changes_after cs (SetProperty p name value) = noted cs p (after_property (cs p))
changes_after cs (RemoveProperty p name) = noted cs p (after_property (cs p))
changes_after cs (SetText p text) = noted cs p (after_text (cs p))
