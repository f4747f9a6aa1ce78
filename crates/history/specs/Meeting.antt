-- Traces of one path that are gone along together.
use Rattle.std.specs.{Prelude.{◌≡◌, ℕ, List, Option, Some, All}, BTreeMap.is_at, Map.lookup, Ordering.{nat_cmp, ordering_then}, declared.cmp.Ordering.Ordering}
use Rattle.svnpath.specs.Paths.{PathValue, path_cmp}
use Rattle.repo_api.specs.Histories.{History}
use Rattle.history.specs.{Gathered.{path_from, path_known}, Locations.{location_back, location_on}, Logs.place_at, declared.meeting.Meeting.Meeting}
use Rattle.traces.specs.declared.place.Place.{Place}

-- a trace that goes on from here has, in the place's revision, the path of the one that begins at the
-- place's path in revision n
abbrev pub IsTraceOf : History → Place → ℕ → Option Place → Type 0
IsTraceOf h place n at =
    path_from h at place.revision
    ≡ location_back h (place_at n place.path) place.revision

-- the order of places that traces have come to
abbrev pub place_cmp : ℕ × PathValue → ℕ × PathValue → Ordering
place_cmp a b = ordering_then (nat_cmp a.0 b.0) (path_cmp a.1 b.1)

-- the revision noted at a place
abbrev pub noted_at : List ((ℕ × PathValue) × ℕ) → ℕ × PathValue → Option ℕ
noted_at entries at = lookup (is_at (place_cmp at)) entries

-- traces have come to these places, have met others, or are known to their end
pub record AreMeeting (h : History) (place : Place) (meeting : Meeting) : Type 0 where
  pub places : (at : ℕ × PathValue) (n : ℕ) → noted_at meeting.places.entries at ≡ Some n
      → IsTraceOf h place n (Some (place_at at.0 at.1))
  pub met : All (λ pair. location_on h place pair.0 ≡ location_on h place pair.1) meeting.met.items
  pub found : (n : ℕ) (o : Option PathValue) → path_known meeting.found.entries n ≡ Some o
      → o ≡ location_on h place n
