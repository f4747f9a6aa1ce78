-- Items whose words are words.
use Rattle.items.specs.{Word.IsWord, Values.{ItemValue, word, number, string, list, ItemValues}}
use Rattle.items.specs.Values as tree

-- each word is one
abbrev mutual
  pub HasWords : ItemValue → Type 0
  HasWords (word w) = IsWord w
  HasWords (number n) = Unit {0}
  HasWords (string s) = Unit {0}
  HasWords (list ts) = HaveWords ts

  pub HaveWords : ItemValues → Type 0
  HaveWords tree.none = Unit {0}
  HaveWords (tree.more t ts) = HasWords t × HaveWords ts
