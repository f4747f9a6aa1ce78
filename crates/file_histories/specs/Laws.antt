-- What holds of segments.
use Rattle.std.specs.Prelude.{◌≡◌, ◌≤◌, ℕ, suc, ◌&&◌, List, [], ◌∷◌, Option, Some, None, if◌then◌else◌, nat_le}
use Rattle.svnpath.specs.Paths.{PathValue}
use Rattle.repo_api.specs.Histories.{History}
use Rattle.traces.specs.declared.place.Place.{Place}
use Rattle.history.specs.{Lines.line_start, Locations.location_back}
use Rattle.file_histories.specs.declared.segment.Segment.{Segment}

-- what segments say of a revision: nothing, or its path, or that what is meant was nowhere
abbrev pub told_of : ℕ → List Segment → Option (Option PathValue)
told_of n [] = None
told_of n (s ∷ ss) = if nat_le s.first n && nat_le n s.last then Some s.path else told_of n ss

-- segments below a revision that leave out none, and have none twice
abbrev pub AreJoined : ℕ → List Segment → Type 0
AreJoined above [] = Unit {0}
AreJoined above (s ∷ ss) = (suc s.last ≡ above) × (s.first ≤ s.last) × AreJoined s.first ss

-- from the trace's beginning on, each revision up to the place is in exactly one of its segments, with the path that
-- the place had there, if it had one
pub record AreSegmentsOf (h : History) (at : Place) (ss : List Segment) : Type 0 where
  pub joined : AreJoined (suc at.revision) ss
  pub told : (n : ℕ) → n ≤ at.revision → told_of n ss
      ≡ (if nat_le (line_start h at).revision n then Some (location_back h at n) else None)

-- what is cut says the same of the revisions that are asked for, and nothing of others
abbrev pub IsCut : ℕ → ℕ → List Segment → List Segment → Type 0
IsCut low high ss parts =
    (n : ℕ) → told_of n parts
    ≡ (if nat_le low n && nat_le n high then told_of n ss else None)
