-- Which components a path may have, and what refuses the others.
use Rattle.std.specs.Prelude.{◌≡◌, ◌≤◌, ◌+◌, ◌⊎◌, ℕ, Bool, ◌==◌, ◌||◌, nat_lt, not, List, [], ◌∷◌, ◌++◌, Option, Some, None, Result, Ok, Err, length}
use Rattle.std.specs.{Prelude.{if◌then◌else◌, IsNone, All, MatchResult}, List.list_any, Option.option_or, Str.is_utf8}
use Rattle.svnpath.specs.{declared.component.TheConstants.{COMPONENT_LIMIT, DEPTH_LIMIT}, Paths.{PathValue, Component, same_component}}
use Rattle.svnpath.specs.declared.fault.PathFault.{PathFault}
use Rattle.svnpath.specs.declared.fault.PathFault.TheVariants.{EmptyComponent, ForbiddenComponent, TooLong, TooDeep, NoMemory}

-- NUL, a line feed and `/`
abbrev pub is_forbidden_byte : ℕ → Bool
is_forbidden_byte b = (b == 0) || (b == 10) || (b == 47)

-- it holds such a byte, is `.` or `..`, or is not UTF-8
abbrev pub is_forbidden : Component → Bool
is_forbidden c =
    list_any is_forbidden_byte c || same_component c (46 ∷ []) || same_component c (46 ∷ 46 ∷ [])
    || not (is_utf8 c)

-- what refuses a component, if anything does: the first of these that holds
abbrev pub component_fault : Component → Option PathFault
component_fault c =
    if length c == 0
    then Some EmptyComponent
    else if is_forbidden c
    then Some ForbiddenComponent
    else if nat_lt COMPONENT_LIMIT (length c)
    then Some TooLong
    else None

-- what refuses a path one component deeper than this depth
abbrev pub depth_fault : ℕ → Option PathFault
depth_fault depth = if nat_lt depth DEPTH_LIMIT then None else Some TooDeep

-- what refuses these components beneath a path of this depth: the first from the left that is
-- refused answers
abbrev pub first_fault : ℕ → List Component → Option PathFault
first_fault depth [] = None
first_fault depth (c ∷ cs) =
    option_or (component_fault c) (option_or (depth_fault depth) (first_fault (depth + 1) cs))

-- the path, or what refuses it
abbrev pub unless_fault : Option PathFault → PathValue → Result PathValue PathFault
unless_fault None path = Ok path
unless_fault (Some fault) path = Err fault

-- the path with these components beneath it
abbrev pub beneath : PathValue → List Component → Result PathValue PathFault
beneath path cs = unless_fault (first_fault (length path) cs) (path ++ cs)

-- the result is what is wanted, or memory ran out
abbrev pub AnswersPath : {T : Type 0} → Result T PathFault → Result T PathFault → Type 0
AnswersPath result wanted =
    MatchResult result (λ value. wanted ≡ Ok value) (λ fault. (wanted ≡ Err fault)
    ⊎ (fault ≡ NoMemory))

abbrev pub IsComponent : Component → Type 0
IsComponent c = IsNone (component_fault c)

-- a path as texts and URLs name them
pub record IsRightPath (path : PathValue) : Type 0 where
  pub components : All IsComponent path
  pub depth : length path ≤ DEPTH_LIMIT
