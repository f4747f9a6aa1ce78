-- What a directory of a revision shows: the names of its entries.
use Rattle.std.specs.{Prelude.{◌≡◌, ◌⊎◌, ℕ, Bool, true, List, [], ◌∷◌, ◌++◌, length, drop, Option, Some, None, if◌then◌else◌}, FinMap.keys}
use Rattle.std.specs.List.{filter_map, list_any}
use Rattle.svnpath.specs.Paths.{Component, is_at_or_under, PathValue, same_component}
use Rattle.repo_api.specs.States.{TreeMap, RepoState, tree_at, trees_in}

-- the item of a list of one
abbrev pub sole : {A : Type 0} → List A → Option A
sole [] = None
sole (x ∷ []) = Some x
sole (x ∷ y ∷ xs) = None

-- the names that lead from p down to q, none where q does not lie beneath it
abbrev pub rest_beneath : PathValue → PathValue → List Component
rest_beneath p q = if is_at_or_under q p then drop (length p) q else []

-- the name of q in the directory p, none where it does not stand straight beneath it
abbrev pub name_in : PathValue → PathValue → Option Component
name_in p q = sole (rest_beneath p q)

-- the names of the paths that stand straight beneath p, in the order of the paths
abbrev pub names_among : PathValue → List PathValue → List Component
names_among p paths = filter_map (name_in p) paths

-- the names of what stands straight beneath a path of a tree: a map has its paths component by
-- component, so these come by their bytes
abbrev pub names_in : TreeMap → PathValue → List Component
names_in m p = names_among p (keys m)

-- the names of what stands straight beneath a path of a revision
abbrev pub names_at : RepoState → ℕ → PathValue → List Component
names_at c n p = names_in (tree_at c n) p

-- what stands at and under a path of a revision is what stands at and under another of another
abbrev pub IsSameAt : RepoState → ℕ → PathValue → ℕ → PathValue → Type 0
IsSameAt c n p m q =
    (rest : PathValue) → trees_in c.revisions n (p ++ rest) ≡ trees_in c.revisions m (q ++ rest)

-- the name is one of these
abbrev pub is_name_among : List Component → Component → Bool
is_name_among names c = list_any (same_component c) names

-- By no other names do two directories of revisions differ: at every other name, and under it, the
-- one has what the other has.
abbrev pub DifferAtMostBy : RepoState → ℕ → PathValue → ℕ → PathValue → List Component → Type 0
DifferAtMostBy c n p m q names =
    (name : Component) → (is_name_among names name ≡ true)
    ⊎ IsSameAt c n (p ++ name ∷ []) m (q ++ name ∷ [])
