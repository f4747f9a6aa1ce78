-- Paths, as lists of components, which are lists of bytes.
use Rattle.std.specs.{Prelude.{◌≡◌, ℕ, Bool, ◌==◌, List, [], Option, Some, None}, Arc.arc_value, declared.sync.Arc.Arc, declared.vec.Vec.Vec, Cmp.IsTotalOrder}
use Rattle.std.specs.{Coded.{Coded, coded_ℕ, coded_list}, FinMap.{IsAntisymmetric, nat_cmp-IsAntisymmetric, slice_cmp-IsAntisymmetric}}
use Rattle.std.specs.{Cmp.Lexicographic.{slice_cmp, pointwise, lists_total, lists_ties, nat_list_cmp_total, texts_ties}, List.starts_with}
use Rattle.std.specs.{Ordering.{nat_cmp, is_eq}, declared.cmp.Ordering.Ordering}

abbrev pub Component : Type 0
Component = List ℕ

abbrev pub PathValue : Type 0
PathValue = List Component

abbrev pub same_component : Component → Component → Bool
same_component = pointwise ◌==◌

abbrev pub same_path : PathValue → PathValue → Bool
same_path = pointwise same_component

-- component by component, each by its bytes: what is at or under a path stands together
abbrev pub path_cmp : PathValue → PathValue → Ordering
path_cmp = slice_cmp (slice_cmp nat_cmp)

-- the components that clones share; none are the root's
abbrev pub components_in : {Y Z : Type 0} → Option (Arc (Vec Component Y) Z) → PathValue
components_in None = []
components_in (Some shared) = (arc_value shared).items

-- whether the path is at or under the other: the other begins it
abbrev pub is_at_or_under : PathValue → PathValue → Bool
is_at_or_under path above = starts_with same_component path above

pub path_cmp_total : IsTotalOrder path_cmp
path_cmp_total = lists_total nat_list_cmp_total

pub path_ties : (x y : PathValue) → same_path x y ≡ is_eq (path_cmp x y)
path_ties = lists_ties (slice_cmp nat_cmp) texts_ties

-- so a path may be the key of a finite map
pub path_cmp-IsAntisymmetric : IsAntisymmetric path_cmp
path_cmp-IsAntisymmetric =
    slice_cmp-IsAntisymmetric (slice_cmp-IsAntisymmetric nat_cmp-IsAntisymmetric)

-- and a part of what a struct is seen as
abbrev pub coded_path : Coded PathValue
coded_path = coded_list (coded_list coded_ℕ)
