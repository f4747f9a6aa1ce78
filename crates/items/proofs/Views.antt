-- The tree of an item, by its variant.
use Rattle.std.proofs.Common.{◌≡◌, ℕ, Vec, Global, rules}
use Rattle.items.specs.{declared.item.Item.{Item, Word, Number, Str, List as Listed, the_lemmas}, declared.item.Name.Name, Values.{word, number, string, list}}
use Rattle.items.specs.View.{value_of, values_of}
use Rattle.byte_string.specs.declared.ByteString.{ByteString}

pub view-Word : (w : Name) → value_of (Word w) ≡ word w
view-Word w = search (rules, the_lemmas)

pub view-Number : (n : ℕ) → value_of (Number n) ≡ number n
view-Number n = search (rules, the_lemmas)

pub view-Str : (s : ByteString) → value_of (Str s) ≡ string s
view-Str s = search (rules, the_lemmas)

pub view-List : (v : Vec Item Global) → value_of (Listed v) ≡ list (values_of v.items)
view-List v = search (rules, the_lemmas)
