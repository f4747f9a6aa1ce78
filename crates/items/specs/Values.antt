-- An item, and the items of a list, without where they lie in memory.
use Rattle.std.specs.Prelude.{ℕ, suc, List, ◌≤◌, ◌<◌, length}
use Rattle.items.specs.declared.scan.TheConstants.{MAX_DEPTH, MAX_STRING}

mutual
  pub data ItemValue : Type 0 where
    word : List ℕ → ItemValue
    number : ℕ → ItemValue
    string : List ℕ → ItemValue
    list : ItemValues → ItemValue

  pub data ItemValues : Type 0 where
    none : ItemValues
    more : ItemValue → ItemValues → ItemValues

-- one item
abbrev pub only : ItemValue → ItemValues
only item = more item none

-- two items
abbrev pub both : ItemValue → ItemValue → ItemValues
both first second = more first (only second)

-- What an item may be: so many lists in one another, numbers and strings up to these.
pub record Limits : Type 0 where
  pub depth : ℕ
  pub number : ℕ
  pub string : ℕ

abbrev pub limits : Limits
limits = record { depth = MAX_DEPTH; number = 18446744073709551615; string = MAX_STRING }

-- The item is within the limits where so many lists are open round it. A string's count is a number
-- too.
abbrev mutual
  pub IsWithin : Limits → ℕ → ItemValue → Type 0
  IsWithin l opened (word w) = Unit {0}
  IsWithin l opened (number n) = n ≤ l.number
  IsWithin l opened (string s) = (length s ≤ l.string) × (length s ≤ l.number)
  IsWithin l opened (list ts) = (opened < l.depth) × AreWithin l (suc opened) ts

  pub AreWithin : Limits → ℕ → ItemValues → Type 0
  AreWithin l opened none = Unit {0}
  AreWithin l opened (more t ts) = IsWithin l opened t × AreWithin l opened ts
