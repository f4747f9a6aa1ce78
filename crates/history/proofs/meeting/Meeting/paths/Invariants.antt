-- What is found is right, and so are the pairs that are left.
use Rattle.std.proofs.Common.{◌≡◌, ℕ, length, Option, Some}
use Rattle.std.specs.List.{All}
use Rattle.svnpath.specs.Paths.{PathValue}
use Rattle.repo_api.specs.Histories.{History}
use Rattle.history.specs.{Gathered.path_known, Locations.location_on, Meeting.AreMeeting}
use Rattle.traces.specs.declared.place.Place.{Place}
use Rattle.history.proofs.meeting.Meeting.paths.Given as goal

abbrev pub invariant-loop-pair : goal.invariant-loop-pair
invariant-loop-pair l = record {
  met : (h : History) (place : Place) → AreMeeting h place l.fn.self → All (λ pair. location_on h place pair.0 ≡ location_on h place pair.1) l.left.items;
  found : (h : History) (place : Place) → AreMeeting h place l.fn.self → (n : ℕ) (o : Option PathValue) → path_known l.paths.entries n ≡ Some o → o ≡ location_on h place n;
}

abbrev pub decreases-loop-pair : goal.decreases-loop-pair
decreases-loop-pair l = length l.left.items
