-- Maps from paths as lists of entries.
use Rattle.std.specs.{Prelude.{Bool, ◌&&◌, not, List, Option}, BTreeMap.is_at, List.list_any, Map.lookup}
use Rattle.svnpath.specs.Paths.{is_at_or_under, path_cmp, PathValue, same_path}

-- what the entries have at the path
abbrev pub found : {X : Type 0} → List (PathValue × X) → PathValue → Option X
found es p = lookup (is_at (path_cmp p)) es

-- the path is under the other, and not the other itself
abbrev pub is_beneath : PathValue → PathValue → Bool
is_beneath above path = not (same_path above path) && is_at_or_under path above

-- the path is one of these
abbrev pub is_listed : List PathValue → PathValue → Bool
is_listed paths path = list_any (λ p. same_path p path) paths
