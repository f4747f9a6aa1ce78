-- Which merge information an entry has: its own, or what it inherits from above.
use Rattle.std.specs.Prelude.{◌≡◌, ℕ, Bool, ◌==◌, List, [], ◌∷◌, ◌++◌, length, map, drop, Option, Some, None, is_some, option_map, if◌then◌else◌, codes}
use Rattle.std.specs.{Cmp.Lexicographic.pointwise, FinMap.get, List.find}
use Rattle.svnpath.specs.Paths.{PathValue, same_path}
use Rattle.repo_api.specs.{Kinds.{node_properties, or_empty}, Properties.PropertyList, States.TreeMap}
use Rattle.mergeinfo.specs.{Maybe.◌>>=◌, Normal.normal_form, Sources.{SourceValue, inherited, IsNormalFormOf}, Texts.sources_of}
use Rattle.merge_queries.specs.declared.inheritance.Inheritance.{Inheritance}
use Rattle.merge_queries.specs.declared.inheritance.Inheritance.TheVariants.{Explicit, Inherited, NearestAncestor}

-- ---- what an entry says itself

abbrev pub is_merge_name : List ℕ → Bool
is_merge_name name = pointwise ◌==◌ name (codes "svn:mergeinfo")

-- the value of `svn:mergeinfo`
abbrev pub merge_value : PropertyList → Option (List ℕ)
merge_value ps = option_map (λ e. e.1) (find (λ e. is_merge_name e.0) ps)

-- the value that the entry at a path of a tree has
abbrev pub value_at : TreeMap → PathValue → Option (List ℕ)
value_at m p = merge_value (or_empty (node_properties (get m p)))

abbrev pub has_value : TreeMap → PathValue → Bool
has_value m p = is_some (value_at m p)

-- the sources that its value names; none where that is no merge information
abbrev pub sources_at : TreeMap → PathValue → Option (List SourceValue)
sources_at m p = value_at m p >>= sources_of

-- ---- what it has from above

-- a path and those above it, the nearest first
abbrev pub upwards : PathValue → List PathValue
upwards [] = [] ∷ []
upwards (c ∷ p) = map (λ above. c ∷ above) (upwards p) ++ [] ∷ []

-- the paths that are asked for a value, one after another
abbrev pub asked : Inheritance → PathValue → List PathValue
asked Explicit p = p ∷ []
asked Inherited p = upwards p
asked NearestAncestor p = drop 1 (upwards p)

-- the first of them whose entry has one
abbrev pub nearest : TreeMap → Inheritance → PathValue → Option PathValue
nearest m inheritance p = find (has_value m) (asked inheritance p)

-- what a path has of the sources of a path at or above it: its own are all its own
abbrev pub handed_down : PathValue → PathValue → List SourceValue → List SourceValue
handed_down above p sources =
    if same_path above p then sources else inherited (drop (length above) p) sources

abbrev pub sources_from : TreeMap → PathValue → Option PathValue → Option (List SourceValue)
sources_from m p None = None
sources_from m p (Some above) = option_map (handed_down above p) (sources_at m above)

-- the sources of a path, by the nearest value: where that is no merge information there are none,
-- whatever is further up
abbrev pub sources_for : TreeMap → Inheritance → PathValue → Option (List SourceValue)
sources_for m inheritance p = sources_from m p (nearest m inheritance p)

-- ---- what is answered

-- the normal form of the sources, where there are some
abbrev pub told_for : TreeMap → Inheritance → PathValue → Option (List SourceValue)
told_for m inheritance p = option_map normal_form (sources_for m inheritance p)

-- what is told is a normal form of the sources, where there are some
abbrev pub IsToldOf : Option (List SourceValue) → Option (List SourceValue) → Type 0
IsToldOf None told = told ≡ None
IsToldOf (Some sources) None = ⊥
IsToldOf (Some sources) (Some told) = IsNormalFormOf sources told
