-- Where something was, revision by revision: stretches of one path, and gaps.
use Rattle.std.specs.Prelude.{ℕ, suc, ◌+◌, ◌-◌, ◌*◌, length, Bool, true, false, List, [], ◌∷◌, ◌++◌, Option, Some, None, if◌then◌else◌, max, min, nat_le}
use Rattle.std.specs.{Prelude.nat_lt, List.filter_map}
use Rattle.svnpath.specs.Paths.{PathValue}
use Rattle.repo_api.specs.Histories.{History}
use Rattle.traces.specs.{Traces.{is_copied, trace}, declared.place.Place.Place}
use Rattle.history.specs.Logs.{place_at}
use Rattle.file_histories.specs.{declared.segment.Segment.Segment, declared.segments.Segments.Segments}

-- the revisions from first to last, in which something was at one path
abbrev pub stretch : ℕ → ℕ → PathValue → Segment
stretch first last p = record { first = first; last = last; path = Some p }

-- the revisions between a copy and its source, in which it was nowhere
abbrev pub gap : ℕ → ℕ → Segment
gap copy source = record { first = suc source; last = copy - 1; path = None }

-- if there are any
abbrev pub gap_between : ℕ → ℕ → List Segment
gap_between copy source = if nat_lt (suc source) copy then gap copy source ∷ [] else []

-- the gap between revision n and the places of a trace below it
abbrev pub gap_before : ℕ → List Place → List Segment
gap_before n [] = []
gap_before n (at ∷ places) = gap_between n at.revision

-- the newest revision of a trace, 0 where there is none
abbrev pub newest : List Place → ℕ
newest [] = 0
newest (at ∷ places) = at.revision

-- whether a stretch begins at a place: a copy brought it, or there is none before
abbrev pub is_beginning : History → Place → List Place → Bool
is_beginning h at [] = true
is_beginning h at (before ∷ places) = is_copied (h at.revision) at.path

-- the segments of the places of a trace, the newest first; the first stretch ends with `last`
abbrev pub segments_of : History → ℕ → List Place → List Segment
segments_of h last [] = []
segments_of h last (at ∷ places) =
    if is_beginning h at places
    then stretch at.revision last at.path
    ∷ (gap_before at.revision places ++ segments_of h (newest places) places)
    else segments_of h last places

-- the segments of what is at a path in the peg revision
abbrev pub segments : History → ℕ → PathValue → List Segment
segments h peg p = segments_of h peg (trace h false (place_at peg p))

-- what of a segment lies between two revisions
abbrev pub part : ℕ → ℕ → Segment → Segment
part low high s = record { first = max s.first low; last = min s.last high; path = s.path }

-- if anything does
abbrev pub cut_to : ℕ → ℕ → Segment → Option Segment
cut_to low high s =
    if nat_le (max s.first low) (min s.last high) then Some (part low high s) else None

abbrev pub cut : ℕ → ℕ → List Segment → List Segment
cut low high ss = filter_map (cut_to low high) ss

-- ---- what is still to come

-- the segments of a trace that goes on, or not, below this revision
abbrev pub segments_from : History → ℕ → Option Place → List Segment
segments_from h above None = []
segments_from h above (Some at) =
    gap_between above at.revision ++ segments_of h at.revision (trace h false at)

abbrev pub to_come : History → Segments → List Segment
to_come h s = cut s.low s.high (segments_from h s.above s.at)

-- how far the trace may still lead, a gap counted in
abbrev pub left_from : ℕ → Option Place → ℕ
left_from above None = 0
left_from above (Some at) = 2 * suc at.revision + length (gap_between above at.revision)

-- what comes next, if anything, and then the rest
abbrev pub next_then : Option Segment → List Segment → List Segment
next_then None ss = []
next_then (Some s) ss = s ∷ ss
