use Rattle.std.proofs.Common.{rules, ◌≡◌, [], ◌++◌, ◌∙◌, map, ap, sym, append-nil}
use Rattle.items.specs.{declared.item.Item.{List, the_lemmas}, Values.list, View.{row_of, value_of, values_of}}
use Rattle.wire_replies.proofs.PropertyRows.{property_tree, row_of-properties}
use Rattle.wire_replies.proofs.properties.properties_item.Goals as goal

pub returns : goal.returns
returns c =
    let made = c.loop-name.items in
    let seen : value_of (List made) ≡ list (values_of made.items) = search (rules, the_lemmas) in
    let none : c.loop-name.name-iterator ≡ [] = c.in-None.ensures.steps.0 in
    let rows : map value_of made.items ≡ map property_tree c.args.properties.now =
    sym (append-nil (map value_of made.items)) ∙ (ap (λ ps. map value_of made.items ++ map property_tree ps) (sym none) ∙ c.loop-name.invariant) in
    seen ∙ ap list (ap row_of rows ∙ row_of-properties c.args.properties.now)
