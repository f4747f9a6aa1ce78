-- Where a client has what the replay of a revision is of.
use Rattle.std.specs.{Prelude.{ℕ, nat_lt, Bool, false, not, ◌&&◌, ◌||◌, List, [], ◌∷◌, ◌++◌, Option, Some, None, option_map, filter, if◌then◌else◌}, List.find}
use Rattle.svnpath.specs.Paths.{Component, is_at_or_under, PathValue, same_path}
use Rattle.repo_api.specs.{Histories.Changed, Kinds.{is_directory_kind, is_file_kind, kind_at}, States.RepoState, declared.change.Change.Change}
use Rattle.repo_api.specs.{declared.change.Source.Source, declared.entry.NodeKind.NodeKind}
use Rattle.repo_api.specs.declared.entry.NodeKind.TheVariants as kinds
use Rattle.traces.specs.declared.place.Place.{Place}
use Rattle.file_histories.specs.Deleted.{is_modify}
use Rattle.replays.specs.declared.ask.ReplayAsk.{ReplayAsk}

-- a replay is of what is at or under the path of the client's URL, and of what is above it
abbrev pub is_in_part : ReplayAsk → PathValue → Bool
is_in_part ask q = is_at_or_under q ask.part || is_at_or_under ask.part q

-- ---- places

abbrev pub place_in : ℕ → PathValue → Place
place_in revision path = record { path = path; revision = revision }

-- where an entry of a directory is, by where the directory is
abbrev pub child_of : Component → Option Place → Option Place
child_of name place = option_map (λ (at : Place). place_in at.revision (at.path ++ name ∷ [])) place

-- what is at a place, if there is one
abbrev pub kind_there : RepoState → Option Place → NodeKind
kind_there c None = kinds.Absent
kind_there c (Some at) = kind_at c at.revision at.path

-- something is there, and it is of this kind
abbrev pub is_of_kind : NodeKind → NodeKind → Bool
is_of_kind kinds.Absent kind = false
is_of_kind kinds.File kind = is_file_kind kind
is_of_kind kinds.Directory kind = is_directory_kind kind

-- ---- the list of changes

-- what a list has at a path and beneath it
abbrev pub run_at : List Changed → PathValue → List Changed
run_at changes p = filter (λ e. is_at_or_under e.0 p) changes

-- the change that a list has at a path
abbrev pub change_in : List Changed → PathValue → Option Change
change_in changes q = option_map (λ e. e.1) (find (λ e. same_path e.0 q) changes)

-- after the change the client has not what it had there before
abbrev pub is_new : Option Change → Bool
is_new None = false
is_new (Some change) = not (is_modify change.action)

-- the text there was changed, or set again
abbrev pub has_text : Option Change → Bool
has_text None = false
has_text (Some change) = change.text

-- where what was added there was copied from
abbrev pub source_in : Option Change → Option Source
source_in None = None
source_in (Some change) = if is_modify change.action then None else change.source

-- ---- what becomes of an entry

-- the client has the source of a copy: it is in its part, and not below the revision from which it has
-- anything
abbrev pub may_follow : ReplayAsk → Source → Bool
may_follow ask s = is_at_or_under s.path ask.part && not (nat_lt s.revision ask.low)

-- the place that an entry of this kind is copied from, if the client has one of this kind
abbrev pub followed : RepoState → ReplayAsk → NodeKind → Option Source → Option Place
followed c ask kind None = None
followed c ask kind (Some s) =
    if may_follow ask s && is_of_kind (kind_at c s.revision s.path) kind
    then Some (place_in s.revision s.path)
    else None

-- the place of what the client keeps: what it had, unless that is taken away, or is of another kind
abbrev pub kept : RepoState → Option Change → NodeKind → Option Place → Option Place
kept c change kind had =
    if not (is_new change) && is_of_kind (kind_there c had) kind then had else None
