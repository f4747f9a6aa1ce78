-- What holds of traces, logs, locations and dated revisions.
use Rattle.std.specs.{Prelude.{◌≡◌, ◌<◌, ◌≤◌, ◌⊎◌, ℕ, Bool, true, false, List, Some, All, Contains}, List.AllPairs}
use Rattle.svnpath.specs.Paths.{PathValue}
use Rattle.repo_api.specs.{Dates.is_dated, Histories.{History, history_of}, States.{RepoState, youngest}}
use Rattle.traces.specs.{Traces.trace, declared.place.Place.Place}
use Rattle.history.specs.{Logs.{log, is_of_log, newest_asked, oldest_asked, place_at}, Locations.location, declared.log_ask.LogAsk.LogAsk}

-- along a trace each place is in an older revision than those before it
abbrev pub TracesFall : History → Type 0
TracesFall h =
    (strict : Bool) (at : Place) → AllPairs (λ p q. q.revision < p.revision) (trace h strict at)

-- the revisions are between the two that were asked for, each once and in order, and one of the
-- paths' traces lists each
pub record IsLogOf (h : History) (ask : LogAsk) (paths : List PathValue)
    (revisions : List ℕ) : Type 0 where
  pub between : All (λ n. (oldest_asked ask ≤ n) × (n ≤ newest_asked ask)) revisions
  pub falling : ask.end ≤ ask.start → AllPairs (λ m n. n < m) revisions
  pub rising : ask.start < ask.end → AllPairs (λ m n. m < n) revisions
  pub listed : All (λ n. is_of_log h ask paths n ≡ true) revisions

abbrev pub LogsAreRight : History → Type 0
LogsAreRight h = (ask : LogAsk) (paths : List PathValue) → IsLogOf h ask paths (log h ask paths)

-- a location in a revision up to the place's own is on the place's trace, and from one in a later
-- revision, which has the place's own path, the trace goes through the place
pub record AreOnTraces (c : RepoState) : Type 0 where
  pub back : (at : Place) (n : ℕ) (p : PathValue) → n ≤ at.revision → location c at n ≡ Some p
      → Contains (trace (history_of c) false at) (place_at n p)
  pub on : (at : Place) (n : ℕ) (p : PathValue) → at.revision < n → location c at n ≡ Some p
      → (p ≡ at.path) × Contains (trace (history_of c) false (place_at n p)) at

-- no revision that is not dated after the date is greater than the dated one, which is one of them
-- or 0
pub record IsGreatestDated (c : RepoState) (date : List ℕ) (revision : ℕ) : Type 0 where
  pub dated : (revision ≡ 0) ⊎ (is_dated c date revision ≡ true)
  pub greatest : (n : ℕ) → n ≤ youngest c → is_dated c date n ≡ true → n ≤ revision
