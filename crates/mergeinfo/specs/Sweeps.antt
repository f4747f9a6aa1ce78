-- Ranges that are put in order, from the first revision on.
use Rattle.std.specs.Prelude.{◌≡◌, ℕ, ◌+◌, ◌<◌, ◌≤◌, ◌^◌, nat_lt, ◌||◌, List, [], ◌∷◌}
use Rattle.mergeinfo.specs.{Ranges.{has, has_inheritable, AreInOrder}, declared.range.Range.Range, declared.sweep.Sweep.Sweep}

-- the revision after the last range
abbrev pub end_of : List Range → ℕ
end_of [] = 0
end_of (x ∷ []) = x.last + 1
end_of (x ∷ y ∷ ranges) = end_of (y ∷ ranges)

-- the ranges in order have the same revisions, as inheritable
pub record IsInOrderOf (ranges ordered : List Range) : Type 0 where
  pub order : AreInOrder ordered
  pub same : (revision : ℕ) → has revision ordered ≡ has revision ranges
  pub same_inheritable : (revision : ℕ)
      → has_inheritable revision ordered ≡ has_inheritable revision ranges

-- what is written has the same revisions below the place
pub record IsWrittenTo (place : ℕ) (ranges written : List Range) : Type 0 where
  pub order : AreInOrder written
  pub ends : end_of written ≤ place
  pub same : (revision : ℕ) → revision < place → has revision written ≡ has revision ranges
  pub same_inheritable : (revision : ℕ) → revision < place
      → has_inheritable revision written ≡ has_inheritable revision ranges

-- from the place on the ranges have the revisions below these ends
pub record IsOpenFrom (place inheritable_end other_end : ℕ) (ranges : List Range) : Type 0 where
  pub all : (revision : ℕ) → place ≤ revision
      → has revision ranges ≡ (nat_lt revision inheritable_end || nat_lt revision other_end)
  pub inheritable : (revision : ℕ) → place ≤ revision
      → has_inheritable revision ranges ≡ nat_lt revision inheritable_end

pub record IsSweptTo (place : ℕ) (ranges : List Range) (sweep : Sweep) : Type 0 where
  pub at_place : sweep.place ≡ place
  pub place_within : sweep.place ≤ 2 ^ 32
  pub is_written : IsWrittenTo place ranges sweep.written.items
  pub is_open : IsOpenFrom place sweep.inheritable_end sweep.other_end ranges
  pub inheritable_within : sweep.inheritable_end ≤ 2 ^ 32
  pub other_within : sweep.other_end ≤ 2 ^ 32

-- a range after others that end before it
pub record IsPushed (ranges : List Range) (range : Range) (longer : List Range) : Type 0 where
  pub order : AreInOrder longer
  pub ends : end_of longer ≡ range.last + 1
  pub all : (revision : ℕ) → has revision longer
      ≡ (has revision ranges || has revision (range ∷ []))
  pub inheritable : (revision : ℕ) → has_inheritable revision longer
      ≡ (has_inheritable revision ranges || has_inheritable revision (range ∷ []))
