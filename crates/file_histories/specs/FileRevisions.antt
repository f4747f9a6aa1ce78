-- The revisions of a file: those in which it, or a directory above it, was changed.
use Rattle.std.specs.Prelude.{◌≡◌, ℕ, false, List, [], ◌∷◌, Option, Some, None, if◌then◌else◌, filter, max, min, nat_le, nat_lt, reverse}
use Rattle.svnpath.specs.Paths.{PathValue}
use Rattle.repo_api.specs.Histories.{History}
use Rattle.traces.specs.{Traces.{trace, traced}, declared.place.Place.Place}
use Rattle.history.specs.Logs.{is_listed, place_at}
use Rattle.file_histories.specs.declared.revisions.FoundPlace.{FoundPlace}

-- places down to the first that is not above a revision, that one too
abbrev pub down_to : ℕ → List Place → List Place
down_to low [] = []
down_to low (at ∷ places) = at ∷ (if nat_le at.revision low then [] else down_to low places)

-- the places of a trace at which a log lists its revision, the newest first
abbrev pub listed_places : History → Option Place → List Place
listed_places h start = filter (is_listed h 0) (traced h false start)

-- those of what is at the path in the greater of the two revisions, down to the smaller one: from
-- start to end
abbrev pub file_revisions : History → PathValue → ℕ → ℕ → List Place
file_revisions h p start end =
    let found = down_to (min start end) (listed_places h (Some (place_at (max start end) p))) in
    if nat_lt end start then found else reverse found

-- ---- one after another

-- what is found first, if anything, and then the rest
abbrev pub found_first : History → Option FoundPlace → List Place
found_first h None = []
found_first h (Some found) = found.at ∷ listed_places h found.next
