-- What is known of the paths of a place, once its trace was gone along.
use Rattle.std.specs.{Prelude.{◌≡◌, ◌≤◌, ℕ, false, List, Option, Some, ◌==◌, if◌then◌else◌}, BTreeMap.is_at, Map.lookup, Ordering.nat_cmp}
use Rattle.svnpath.specs.Paths.{PathValue}
use Rattle.repo_api.specs.Histories.{History}
use Rattle.history.specs.{Locations.{location_back, location_on, path_in}, declared.gathering.Known.Known}
use Rattle.traces.specs.{Traces.traced, declared.place.Place.Place}

-- the path in a revision of a trace that goes on from a place, or not
abbrev pub path_from : History → Option Place → ℕ → Option PathValue
path_from h at n = path_in n (traced h false at)

-- up to this revision a trace goes on from the one place as from the other
abbrev pub GoesOn : History → Option Place → ℕ → Option Place → Type 0
GoesOn h at limit next = (n : ℕ) → n ≤ limit → path_from h next n ≡ path_from h at n

-- what a map has for a revision
abbrev pub path_known : List (ℕ × Option PathValue) → ℕ → Option (Option PathValue)
path_known entries n = lookup (is_at (nat_cmp n)) entries

-- the path of one revision more was noted
abbrev pub IsNoted : ℕ → Option PathValue → List (ℕ × Option PathValue)
    → List (ℕ × Option PathValue) → Type 0
IsNoted r path old new =
    (n : ℕ) → path_known new n ≡ (if r == n then Some path else path_known old n)

-- what is known of a place at and below it, and above it
pub record AreKnown (h : History) (at : Place) (known : Known) : Type 0 where
  pub back : (n : ℕ) (o : Option PathValue) → path_known known.back.entries n ≡ Some o
      → o ≡ location_back h at n
  pub on : (n : ℕ) (o : Option PathValue) → path_known known.on.entries n ≡ Some o
      → o ≡ location_on h at n
