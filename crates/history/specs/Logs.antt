-- Which revisions a log lists.
use Rattle.std.specs.Prelude.{◌≡◌, ℕ, zero, suc, ◌==◌, Bool, ◌&&◌, List, [], ◌∷◌, Option, Some, None, if◌then◌else◌, map, filter, take, max, min, nat_le}
use Rattle.std.specs.{Prelude.reverse, List.list_any}
use Rattle.svnpath.specs.Paths.{PathValue}
use Rattle.repo_api.specs.Histories.{History}
use Rattle.traces.specs.{Touching.is_touched, Traces.{trace, traced}, declared.place.Place.Place}
use Rattle.history.specs.{declared.listed.Listed.Listed, declared.log_ask.LogAsk.LogAsk}

-- the places of a trace at which its revision is listed
abbrev pub is_listed : History → ℕ → Place → Bool
is_listed h low at = nat_le low at.revision && is_touched (h at.revision) at.path

-- the revisions from low on that a trace lists, the newest first
abbrev pub listed : History → ℕ → List Place → List ℕ
listed h low places = map (λ at. at.revision) (filter (is_listed h low) places)

-- what a walk along a trace has found, and what it will find from there on
abbrev pub found_from : History → Bool → ℕ → Option Listed → List ℕ
found_from h strict low None = []
found_from h strict low (Some l) = l.revision ∷ listed h low (traced h strict l.next)

-- what a walk along a trace finds first: nothing, or a revision and the place from which the rest
-- goes on
abbrev pub IsNext : History → Bool → ℕ → Option Place → Option Listed → Type 0
IsNext h strict low start found =
    listed h low (traced h strict start) ≡ found_from h strict low found

-- as many revisions as told, ending with low: from the one before n down
abbrev pub revisions_down : ℕ → ℕ → List ℕ
revisions_down low zero = []
revisions_down low (suc n) = if nat_le low n then n ∷ revisions_down low n else []

-- the revisions from start to end
abbrev pub revisions_from : ℕ → ℕ → List ℕ
revisions_from start end =
    if nat_le end start then revisions_down end (suc start)
    else reverse (revisions_down start (suc end))

-- at most so many, where that is not 0
abbrev pub limited : ℕ → List ℕ → List ℕ
limited zero ns = ns
limited (suc n) ns = take (suc n) ns

abbrev pub is_among : ℕ → List ℕ → Bool
is_among n ns = list_any (λ m. m == n) ns

-- whether one of the places' traces lists the revision, from low on
abbrev pub is_logged : History → Bool → ℕ → List Place → ℕ → Bool
is_logged h strict low places n =
    list_any (λ at. is_among n (listed h low (trace h strict at))) places

-- no path means the root
abbrev pub or_root : List PathValue → List PathValue
or_root [] = [] ∷ []
or_root (p ∷ ps) = p ∷ ps

abbrev pub newest_asked : LogAsk → ℕ
newest_asked ask = max ask.start ask.end

abbrev pub oldest_asked : LogAsk → ℕ
oldest_asked ask = min ask.start ask.end

abbrev pub place_at : ℕ → PathValue → Place
place_at n p = record { path = p; revision = n }

-- the places that a log goes back from: each path in the greater of start and end
abbrev pub log_places : LogAsk → List PathValue → List Place
log_places ask paths = map (place_at (newest_asked ask)) (or_root paths)

-- whether the log lists the revision
abbrev pub is_of_log : History → LogAsk → List PathValue → ℕ → Bool
is_of_log h ask paths = is_logged h ask.strict 0 (log_places ask paths)

-- the revisions of a log of these paths, from start to end, each once
abbrev pub log : History → LogAsk → List PathValue → List ℕ
log h ask paths =
    limited ask.limit (filter (is_of_log h ask paths) (revisions_from ask.start ask.end))

-- the same paths stand in both lists, however often
abbrev pub AreSameNamed : List PathValue → List PathValue → Type 0
AreSameNamed named paths =
    (test : PathValue → Bool) → list_any test named ≡ list_any test paths
