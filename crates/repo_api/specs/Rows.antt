-- Properties in the order of their names, and the place of a name among them.
use Rattle.std.specs.{Prelude.{◌≡◌, ℕ, T, List}, FinMap.Entries.is_sorted, List.AllByRecursion, Cmp.Lexicographic.slice_cmp, Ordering.nat_cmp}
use Rattle.std.specs.declared.cmp.Ordering.TheVariants.{Less, Greater}
use Rattle.repo_api.specs.Properties.{PropertyList}

-- the names strictly rise, by their bytes
abbrev pub AreInOrder : PropertyList → Type 0
AreInOrder ps = T (is_sorted (slice_cmp nat_cmp) ps)

-- a name comes after the first properties and before the others
pub record IsBetween (name : List ℕ) (first others : PropertyList) : Type 0 where
  pub above : AllByRecursion (λ p. slice_cmp nat_cmp name p.0 ≡ Greater) first
  pub below : AllByRecursion (λ p. slice_cmp nat_cmp name p.0 ≡ Less) others
