-- Where what stands at a place was before, by the lists of changes alone.
use Rattle.std.specs.Prelude.{ℕ, zero, suc, ◌==◌, Bool, true, false, ◌&&◌, List, [], ◌∷◌, ◌++◌, Option, Some, None, if◌then◌else◌, length, drop, reverse, ◌-◌}
use Rattle.std.specs.{Prelude.◌<◌, List.find, Option.ForSome}
use Rattle.svnpath.specs.Paths.{is_at_or_under, PathValue}
use Rattle.repo_api.specs.{declared.change.Action.Action, declared.change.Action.TheVariants.{Add, Delete, Replace, Modify}, declared.change.Source.Source}
use Rattle.repo_api.specs.Histories.{Changed, History}
use Rattle.traces.specs.declared.place.Place.{Place}

-- whether what stands at the path after the change is another than before
abbrev pub makes : Action → Bool
makes Add = true
makes Delete = false
makes Replace = true
makes Modify = false

-- whether the change made what stands at the path, or a directory above it
abbrev pub decides : PathValue → Changed → Bool
decides p e = makes e.1.action && is_at_or_under p e.0

-- the longest path at or above p with an add or replace: those above p stand in the order of their
-- lengths
abbrev pub deciding_change : List Changed → PathValue → Option Changed
deciding_change changes p = find (decides p) (reverse changes)

abbrev pub earlier : PathValue → ℕ → Option Place
earlier p n = if n == 0 then None else Some (record { path = p; revision = n - 1 })

-- the rest of the path, beneath the source
abbrev pub source_place : Option Source → PathValue → Option Place
source_place None rest = None
source_place (Some s) rest = Some (record { path = s.path ++ rest; revision = s.revision })

abbrev pub place_by : Option Changed → Place → Option Place
place_by None at = earlier at.path at.revision
place_by (Some e) at = source_place e.1.source (drop (length e.0) at.path)

-- the place before: the same path in the revision before, the copy's source, or none
abbrev pub place_before : List Changed → Place → Option Place
place_before changes at = place_by (deciding_change changes at.path) at

abbrev pub is_from : Option Source → Bool
is_from None = false
is_from (Some s) = true

abbrev pub is_copy_by : Option Changed → Bool
is_copy_by None = false
is_copy_by (Some e) = is_from e.1.source

-- whether a copy brought what stands at the path
abbrev pub is_copied : List Changed → PathValue → Bool
is_copied changes p = is_copy_by (deciding_change changes p)

-- the place before, where a trace that ends at copies goes on
abbrev pub next_place : Bool → List Changed → Place → Option Place
next_place strict changes at =
    if strict && is_copied changes at.path then None else place_before changes at

-- the places of a trace below revision n, the newest first; a strict one ends at a copy
abbrev pub trace_below : History → Bool → ℕ → Option Place → List Place
trace_below h strict zero place = []
trace_below h strict (suc n) None = []
trace_below h strict (suc n) (Some at) =
    let here = at.revision == n in
    (if here then at ∷ [] else []) ++ trace_below h strict n
    (if here then next_place strict (h n) at else Some at)

-- the trace of a place, itself first
abbrev pub trace : History → Bool → Place → List Place
trace h strict at = trace_below h strict (suc at.revision) (Some at)

-- the places of a trace that goes on, or not
abbrev pub traced : History → Bool → Option Place → List Place
traced h strict None = []
traced h strict (Some at) = trace h strict at

-- the place, if there is one, is below the revision
abbrev pub IsBelow : ℕ → Option Place → Type 0
IsBelow n place = ForSome place (λ at. at.revision < n)
