-- What is printed for rows.
use Rattle.std.proofs.Common.{◌≡◌, List, [], ◌∷◌, ◌++◌, sym, ap, ◌∙◌, append_assoc, append-nil}
use Rattle.items.specs.{declared.item.Item.Item, View.{value_of, values_of}, Print.{printed, row_printed}}

pub row_printed-snoc : (items : List Item) (i : Item) → row_printed (values_of (items ++ (i ∷ []))) ≡ row_printed (values_of items) ++ printed (value_of i)
row_printed-snoc [] i = append-nil (printed (value_of i))
row_printed-snoc (x ∷ xs) i = ap (λ r. printed (value_of x) ++ r) (row_printed-snoc xs i) ∙ sym (append_assoc (printed (value_of x)) (row_printed (values_of xs)) (printed (value_of i)))
