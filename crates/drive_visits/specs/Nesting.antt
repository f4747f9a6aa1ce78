-- Which directories are open between the visits of a plan.
use Rattle.std.specs.Prelude.{◌≡◌, Bool, true, false, not, ◌&&◌, if◌then◌else◌, List, [], ◌∷◌, ◌++◌, Option, Some, None, option_and_then}
use Rattle.svnpath.specs.Paths.{PathValue}
use Rattle.repo_api.specs.{Trees.{is_directory, Tree}, declared.entry.Entry.Entry}
use Rattle.drive_rules.specs.Places.{is_in_directory}
use Rattle.drive_visits.specs.{Visits.Visit, Visits.Visit.{Open, Add, Delete, Close}}

-- an entry stands there as a directory, or as a file
abbrev pub stands_as : Bool → Option Entry → Bool
stands_as directory None = false
stands_as true (Some e) = is_directory e
stands_as false (Some e) = not (is_directory e)

-- the directories that are open, the innermost first, once an entry is entered, that is to stand so
-- and has its place in the innermost: a directory is open from then on, and a file never
abbrev pub after_entry_visit : Tree → PathValue → List PathValue → PathValue → Bool
    → Option (List PathValue)
after_entry_visit new top [] p directory = None
after_entry_visit new top (d ∷ ds) p directory =
    if is_in_directory top d p && stands_as directory (new p)
    then Some (if directory then p ∷ d ∷ ds else d ∷ ds)
    else None

-- once an entry is deleted that has its place in the innermost
abbrev pub after_delete_visit : PathValue → List PathValue → PathValue → Option (List PathValue)
after_delete_visit top [] p = None
after_delete_visit top (d ∷ ds) p = if is_in_directory top d p then Some (d ∷ ds) else None

-- once the innermost is closed, which is not the last
abbrev pub after_close_visit : List PathValue → Option (List PathValue)
after_close_visit [] = None
after_close_visit (d ∷ []) = None
after_close_visit (d ∷ e ∷ ds) = Some (e ∷ ds)

-- the directories that are open after a visit
abbrev pub after_visit : Tree → PathValue → List PathValue → Visit → Option (List PathValue)
after_visit new top ds (Open p directory) = after_entry_visit new top ds p directory
after_visit new top ds (Add p directory) = after_entry_visit new top ds p directory
after_visit new top ds (Delete p) = after_delete_visit top ds p
after_visit new top ds Close = after_close_visit ds

-- the directories that are open after all visits, in their order
abbrev pub walk : Tree → PathValue → List PathValue → List Visit → Option (List PathValue)
walk new top ds [] = Some ds
walk new top ds (v ∷ vs) =
    option_and_then (λ mid. walk new top mid vs) (after_visit new top ds v)

-- the visits begin in the directory and end in it, whatever else is open around it
abbrev pub AreNested : Tree → PathValue → PathValue → List Visit → Type 0
AreNested new top d visits =
    (ds : List PathValue) → walk new top (d ∷ ds) visits ≡ Some (d ∷ ds)

-- ---- the visits of one entry

-- a visit, those of what is below it, and the close, where it is of a directory
abbrev pub entry_visits : Bool → Visit → List Visit → List Visit
entry_visits true visit rest = visit ∷ (rest ++ Close ∷ [])
entry_visits false visit rest = visit ∷ rest

-- an entry is opened, or comes anew
abbrev pub entry_visit : Bool → Bool → PathValue → Visit
entry_visit true directory p = Add p directory
entry_visit false directory p = Open p directory
