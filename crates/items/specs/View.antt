-- The tree that an `Item` stands for.
use Rattle.std.specs.Prelude.{List, [], ◌∷◌, map}
use Rattle.items.specs.{Values.{ItemValue, word, number, string, list, ItemValues, none, more}, declared.item.Item.{Item, fold-Item}}
use Rattle.items.specs.declared.item.Item.TheOpen.{Item-F}

abbrev pub row_of : List ItemValue → ItemValues
row_of [] = none
row_of (t ∷ ts) = more t (row_of ts)

-- one level, with each item inside already seen as its tree
abbrev pub tree_step : Item-F ItemValue → ItemValue
tree_step (Item-F.Word w) = word w
tree_step (Item-F.Number n) = number n
tree_step (Item-F.Str s) = string s
tree_step (Item-F.List v) = list (row_of v.items)

abbrev pub value_of : Item → ItemValue
value_of = fold-Item ItemValue tree_step

abbrev pub values_of : List Item → ItemValues
values_of items = row_of (map value_of items)
