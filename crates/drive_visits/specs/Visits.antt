-- The steps of a plan.
use Rattle.std.specs.Prelude.{Bool, true, false, List, [], ◌∷◌, ◌++◌, Option}
use Rattle.svnpath.specs.Paths.{PathValue}
use Rattle.repo_api.specs.{Trees.{is_directory_there, Tree}, declared.entry.Entry.Entry}
use Rattle.drive_rules.specs.{Drives.{Counts, IsRight}, Steps.{EntryKind, Step}, Steps.EntryKind.{DirectoryKind, FileKind}}
use Rattle.drive_rules.specs.Steps.Step.{AddAt, DeleteAt, OpenAt}

-- What a drive does at a path: an entry is opened or added, as a directory or else a file, or it is
-- deleted; or the innermost directory that is open is closed.
pub data Visit : Type 0 where
  Open : PathValue → Bool → Visit
  Add : PathValue → Bool → Visit
  Delete : PathValue → Visit
  Close : Visit

-- the kind of a directory, or of a file
abbrev pub kind_if : Bool → EntryKind
kind_if true = DirectoryKind
kind_if false = FileKind

-- the kind of an entry
abbrev pub entry_kind : Option Entry → EntryKind
entry_kind e = kind_if (is_directory_there e)

-- the steps of an entry's own, where it is opened, and where it comes anew
abbrev pub OwnSteps : Type 0
OwnSteps = PathValue → Bool → List Step

-- an entry is opened or added, and then told what is its own; a close says no step
abbrev pub visit_steps : OwnSteps → Visit → List Step
visit_steps own (Visit.Open p directory) = OpenAt p (kind_if directory) ∷ own p false
visit_steps own (Visit.Add p directory) = AddAt p (kind_if directory) ∷ own p true
visit_steps own (Visit.Delete p) = DeleteAt p ∷ []
visit_steps own Visit.Close = []

-- the steps of all visits, in their order
abbrev pub plan_steps : OwnSteps → List Visit → List Step
plan_steps own [] = []
plan_steps own (v ∷ vs) = visit_steps own v ++ plan_steps own vs

-- the steps of these visits are a right drive
abbrev pub IsRightPlan : Counts → (PathValue → Bool) → (PathValue → Bool)
    → (PathValue → Bool) → Tree → Tree → OwnSteps → List Visit → Type 0
IsRightPlan counts scope due apart old new own visits =
    IsRight counts scope due apart old new (plan_steps own visits)
