-- The entries beneath a path that have merge information of their own.
use Rattle.std.specs.{Prelude.{◌≡◌, Bool, true, false, ◌&&◌, List, [], ◌∷◌, ◌++◌, is_some}, FinMap.{get, keys}, List.filter}
use Rattle.svnpath.specs.Paths.{Component, PathValue}
use Rattle.repo_api.specs.{Readings.rest_beneath, States.TreeMap}
use Rattle.merge_queries.specs.Queries.{has_value}

-- these names, one at least, lead from entry to entry down from a path
abbrev pub leads : TreeMap → PathValue → List Component → Bool
leads m p [] = false
leads m p (c ∷ []) = is_some (get m (p ++ c ∷ []))
leads m p (c ∷ d ∷ names) = is_some (get m (p ++ c ∷ [])) && leads m (p ++ c ∷ []) (d ∷ names)

abbrev pub has_names : List Component → Bool
has_names [] = false
has_names (c ∷ names) = true

-- q is beneath p, and its entry has a value
abbrev pub is_descendant : TreeMap → PathValue → PathValue → Bool
is_descendant m p q = leads m p (rest_beneath p q) && has_value m q

-- all of them, in the order of the paths
abbrev pub descendants : TreeMap → PathValue → List PathValue
descendants m p = filter (is_descendant m p) (keys m)

-- in a tree that is all that is beneath p and has a value
abbrev pub AreAllBeneath : TreeMap → PathValue → Type 0
AreAllBeneath m p =
    (q : PathValue) → is_descendant m p q ≡ (has_names (rest_beneath p q) && has_value m q)
