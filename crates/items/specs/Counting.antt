-- How many items there are in an item, and in one that has begun.
use Rattle.std.specs.Prelude.{◌≡◌, ◌≤◌, ℕ, ◌+◌, suc, List, ◌++◌}
use Rattle.items.specs.{Values.{ItemValue, word, number, string, list, ItemValues, none, more, limits}, Stream.{IsItem, HasNoItem, Begins}}

-- words, numbers, strings and lists, in lists of any depth, and the item itself
abbrev mutual
  pub item_count : ItemValue → ℕ
  item_count (word w) = 1
  item_count (number n) = 1
  item_count (string s) = 1
  item_count (list ts) = suc (row_count ts)

  pub row_count : ItemValues → ℕ
  row_count none = 0
  row_count (more t ts) = item_count t + row_count ts

-- the bytes go on to an item with so many items in it, and to none with fewer
pub record IsFewest (n : ℕ) (bytes : List ℕ) : Type 0 where
  pub item : ItemValue
  pub rest : List ℕ
  pub is_item : IsItem limits item (bytes ++ rest)
  pub count : item_count item ≡ n
  pub least : (t : ItemValue) (others : List ℕ) → IsItem limits t (bytes ++ others) → n ≤ item_count t

-- so it is where no item is whole, and the bytes go on to one
abbrev pub CountsItems : ℕ → List ℕ → Type 0
CountsItems n bytes = HasNoItem bytes → Begins limits bytes → IsFewest n bytes
