-- Lines of history: what was added once, followed through changes and copies.
use Rattle.std.specs.Prelude.{◌≡◌, ◌==◌, ◌⊎◌, Bool, true, false, not, ◌&&◌, List, [], ◌∷◌, ◌++◌, length, drop}
use Rattle.svnpath.specs.Paths.{Component, is_at_or_under, PathValue, same_path}
use Rattle.repo_api.specs.{Histories.{Changed, History}, Readings.is_name_among}
use Rattle.traces.specs.{Traces.{makes, trace}, declared.place.Place.Place}

-- two places are one
abbrev pub same_place : Place → Place → Bool
same_place a b = (a.revision == b.revision) && same_path a.path b.path

-- the last of these places, or this one where there are none
abbrev pub last_place : Place → List Place → Place
last_place at [] = at
last_place at (p ∷ ps) = last_place p ps

-- the place at which a trace ends: where the entry was added, or the root's first
abbrev pub line_start : History → Place → Place
line_start h at = last_place at (trace h false at)

-- two places are of one line of history
abbrev pub is_one_line : History → Place → Place → Bool
is_one_line h a b = same_place (line_start h a) (line_start h b)

-- the first two places are the other two, in whichever order
abbrev pub AreTheseTwo : Place → Place → Place → Place → Type 0
AreTheseTwo a b c d = ((a ≡ c) × (b ≡ d)) ⊎ ((a ≡ d) × (b ≡ c))

-- ---- what is beneath places

-- the place that these names lead down to
abbrev pub place_beneath : Place → PathValue → Place
place_beneath at rest = record { path = at.path ++ rest; revision = at.revision }

-- what is at two places is of one line, and so is what is at each path beneath both
abbrev pub AreOneLineBeneath : History → Place → Place → Type 0
AreOneLineBeneath h a b =
    (rest : PathValue) → line_start h (place_beneath a rest) ≡ line_start h (place_beneath b rest)

-- the path does not begin with one of these names
abbrev pub is_beside : List Component → PathValue → Bool
is_beside names [] = true
is_beside names (name ∷ rest) = not (is_name_among names name)

-- the same of two places, but for what is beneath them by these names
abbrev pub AreOneLineBeside : List Component → History → Place → Place → Type 0
AreOneLineBeside names h a b =
    (rest : PathValue) → is_beside names rest ≡ true
    → line_start h (place_beneath a rest) ≡ line_start h (place_beneath b rest)

-- the change added or replaced what is beneath the path, by none of these names, and not what is at
-- it or above it
abbrev pub makes_beside : List Component → PathValue → Changed → Bool
makes_beside names p e =
    makes e.1.action && is_at_or_under e.0 p && not (is_at_or_under p e.0)
    && is_beside names (drop (length p) e.0)
