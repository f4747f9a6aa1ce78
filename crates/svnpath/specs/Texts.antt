-- Paths as texts.
use Rattle.std.specs.Prelude.{ℕ, Bool, ◌==◌, ◌-◌, List, [], ◌∷◌, ◌++◌, Option, Some, None, Result, Err, length, take, drop, if◌then◌else◌}
use Rattle.std.specs.List.{starts_with, ends_with, slice_split, flat_map}
use Rattle.svnpath.specs.{Paths.{PathValue, Component}, Components.beneath, declared.fault.PathFault.PathFault}
use Rattle.svnpath.specs.declared.fault.PathFault.TheVariants.{ForbiddenComponent}

abbrev pub is_slash : ℕ → Bool
is_slash b = b == 47

abbrev pub starts_with_slash : List ℕ → Bool
starts_with_slash text = starts_with ◌==◌ text (47 ∷ [])

-- one slash is dropped, if there is one
abbrev pub without_first_slash : List ℕ → List ℕ
without_first_slash text = if starts_with_slash text then drop 1 text else text

abbrev pub without_last_slash : List ℕ → List ℕ
without_last_slash text =
    if ends_with ◌==◌ text (47 ∷ []) then take (length text - 1) text else text

-- what stands between the slashes; the empty text has no components
abbrev pub components_of : List ℕ → List Component
components_of [] = []
components_of (b ∷ text) = slice_split is_slash (b ∷ text)

-- an absolute text: `/` is the root, and a slash stands before each component
abbrev pub parsed : List ℕ → Result PathValue PathFault
parsed text =
    if starts_with_slash text then beneath [] (components_of (drop 1 text))
    else Err ForbiddenComponent

-- a relative text, whose first and last slash may be dropped
abbrev pub joined : PathValue → List ℕ → Result PathValue PathFault
joined path text = beneath path (components_of (without_last_slash (without_first_slash text)))

-- the text of a path
abbrev pub path_text : PathValue → List ℕ
path_text [] = 47 ∷ []
path_text (c ∷ p) = flat_map (λ component. 47 ∷ component) (c ∷ p)

-- a text that begins so and goes on with the texts of these components
abbrev pub text_from : List ℕ → List Component → List ℕ
text_from front others = front ++ flat_map (λ component. 47 ∷ component) others

-- the path above, which the root lacks
abbrev pub parent : PathValue → Option PathValue
parent [] = None
parent (c ∷ p) = Some (take (length p) (c ∷ p))
