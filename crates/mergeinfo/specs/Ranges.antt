-- Ranges of revisions, and the revisions that they have.
use Rattle.std.specs.{Prelude.{◌≡◌, ℕ, ◌+◌, ◌<◌, ◌≤◌, nat_le, Bool, true, false, ◌&&◌, not, List, [], ◌∷◌}, List.list_any}
use Rattle.mergeinfo.specs.{declared.range.Range.Range, declared.range.TheConstants.LAST_REVISION}

abbrev pub covers : ℕ → Range → Bool
covers revision range = nat_le range.first revision && nat_le revision range.last

-- whether one of the ranges has the revision
abbrev pub has : ℕ → List Range → Bool
has revision ranges = list_any (covers revision) ranges

-- whether one of those that are inheritable has it
abbrev pub has_inheritable : ℕ → List Range → Bool
has_inheritable revision ranges =
    list_any (λ range. range.is_inheritable && covers revision range) ranges

abbrev pub same_kind : Bool → Bool → Bool
same_kind true b = b
same_kind false b = not b

-- two ranges of which one is inheritable and the other not, with a revision in both
abbrev pub are_at_odds : Range → Range → Bool
are_at_odds x y =
    not (same_kind x.is_inheritable y.is_inheritable) && nat_le x.first y.last
    && nat_le y.first x.last

abbrev pub some_are_at_odds : List Range → Bool
some_are_at_odds ranges = list_any (λ x. list_any (are_at_odds x) ranges) ranges

-- a range is below the next, and does not touch it where they are of one kind
pub record IsBelow (range next : Range) : Type 0 where
  pub forward : range.first ≤ range.last
  pub apart : range.last < next.first
  pub maximal : range.is_inheritable ≡ next.is_inheritable → range.last + 1 < next.first

abbrev pub IsBelowFirst : Range → List Range → Type 0
IsBelowFirst range [] = range.first ≤ range.last
IsBelowFirst range (next ∷ others) = IsBelow range next

-- ranges that ascend, as few as can be
abbrev pub AreInOrder : List Range → Type 0
AreInOrder [] = Unit {0}
AreInOrder (range ∷ others) = IsBelowFirst range others × AreInOrder others

-- a range of revisions that there may be
pub record IsRightRange (range : Range) : Type 0 where
  pub some : 0 < range.first
  pub forward : range.first ≤ range.last
  pub within : range.last ≤ LAST_REVISION
