-- Upwards and downwards along paths.
use Rattle.std.specs.{Prelude.{◌≡◌, Bool, ◌||◌, List, [], Option, Some, None}, List.list_any}
use Rattle.svnpath.specs.Paths.{PathValue, same_path}
use Rattle.merge_queries.specs.Queries.{upwards}

-- a path, if there is one, and those above it
abbrev pub from_there : Option PathValue → List PathValue
from_there None = []
from_there (Some p) = upwards p

abbrev pub is_path_among : List PathValue → PathValue → Bool
is_path_among paths q = list_any (same_path q) paths

-- those that pass the test were put among others
abbrev pub AreNoted : (PathValue → Bool) → List PathValue → List PathValue → Type 0
AreNoted test old new =
    (q : PathValue) → is_path_among new q ≡ (is_path_among old q || test q)
