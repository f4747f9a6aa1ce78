-- Where a place was or went, and the kinds that a log shows.
use Rattle.std.specs.{Prelude.{ℕ, not, ◌==◌, false, List, [], ◌∷◌, Option, Some, None, if◌then◌else◌, nat_le}, List.{filter, filter_map}, Option.option_map}
use Rattle.svnpath.specs.Paths.{PathValue, same_path}
use Rattle.repo_api.specs.{declared.entry.NodeKind.NodeKind, declared.change.Action.Action, declared.change.Action.TheVariants.{Add, Delete, Replace, Modify}}
use Rattle.repo_api.specs.{Histories.{Changed, History, history_of}, Kinds.kind_at, States.RepoState}
use Rattle.repo_api.specs.declared.entry.NodeKind.TheVariants as kinds
use Rattle.traces.specs.{Traces.{trace, place_before}, declared.place.Place.Place}

abbrev pub kind_in_place : RepoState → Option Place → NodeKind
kind_in_place c None = kinds.Absent
kind_in_place c (Some at) = kind_at c at.revision at.path

-- the kind of what stood at the path's place before the revision
abbrev pub kind_before : RepoState → ℕ → PathValue → NodeKind
kind_before c n p =
    kind_in_place c (place_before (history_of c n) (record { path = p; revision = n }))

-- the kind that a log shows for a change: of what is there now, or of what was deleted
abbrev pub kind_shown_of : RepoState → ℕ → PathValue → Action → NodeKind
kind_shown_of c n p Add = kind_at c n p
kind_shown_of c n p Delete = kind_before c n p
kind_shown_of c n p Replace = kind_at c n p
kind_shown_of c n p Modify = kind_at c n p

abbrev pub kind_shown : RepoState → ℕ → Changed → NodeKind
kind_shown c n e = kind_shown_of c n e.0 e.1.action

-- the path that a list of places has in a revision
abbrev pub path_in : ℕ → List Place → Option PathValue
path_in n [] = None
path_in n (at ∷ places) = if at.revision == n then Some at.path else path_in n places

-- the path in a revision at or below the place's, by its trace
abbrev pub location_back : History → Place → ℕ → Option PathValue
location_back h at n = path_in n (trace h false at)

-- the path, if it is the other
abbrev pub only_same : PathValue → Option PathValue → Option PathValue
only_same p None = None
only_same p (Some q) = if same_path p q then Some p else None

-- and above it: the same path, where the trace from there passes through the place
abbrev pub location_on : History → Place → ℕ → Option PathValue
location_on h at n =
    only_same at.path
    (location_back h (record { path = at.path; revision = n }) at.revision)

-- a path at which nothing stands has no trace
abbrev pub if_present : NodeKind → Option PathValue → Option PathValue
if_present kinds.Absent p = None
if_present kinds.File p = p
if_present kinds.Directory p = p

abbrev pub location : RepoState → Place → ℕ → Option PathValue
location c at n =
    if nat_le n at.revision then location_back (history_of c) at n
    else if_present (kind_at c n at.path) (location_on (history_of c) at n)

-- each number once, where it stands first
abbrev pub each_once : List ℕ → List ℕ
each_once [] = []
each_once (n ∷ ns) = n ∷ filter (λ m. not (m == n)) (each_once ns)

-- the revision with the place's path there, if there is one
abbrev pub located_in : RepoState → Place → ℕ → Option (ℕ × PathValue)
located_in c at n = option_map (λ p. (n, p)) (location c at n)

-- the place's paths in the revisions, in the order asked, each revision once
abbrev pub locations : RepoState → Place → List ℕ → List (ℕ × PathValue)
locations c at ns = filter_map (located_in c at) (each_once ns)
