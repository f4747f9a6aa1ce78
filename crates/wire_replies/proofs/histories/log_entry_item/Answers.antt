use Rattle.std.specs.Prelude.{Ok}
use Rattle.std.proofs.Common.{rules, ◌≡◌, ◌∙◌, map, ap, refl}
use Rattle.items.specs.{declared.item.Item.{List, the_lemmas}, Values.list, View.{row_of, value_of, values_of}}
use Rattle.wire_replies.proofs.Made.{made_behind}
use Rattle.wire_replies.proofs.histories.log_entry_item.Goals as goal

pub returns : goal.returns
returns c =
    let changes = made_behind c.changes_item.result _ _ _ _ _ (ap (λ items. map value_of items) c.new.ensures.items) c.changes_item.ensures refl c.in_ok-items.ensures in
    let revision = made_behind {E = Unit {0}} (Ok c.number_item.result) _ _ _ _ _ changes c.number_item.ensures refl c.in_ok-items-2.ensures in
    let author = made_behind c.optional_string_item.result _ _ _ _ _ revision c.optional_string_item.ensures refl c.in_ok-items-3.ensures in
    let date = made_behind c.optional_string_item-2.result _ _ _ _ _ author c.optional_string_item-2.ensures refl c.in_ok-items-4.ensures in
    let message = made_behind c.optional_string_item-3.result _ _ _ _ _ date c.optional_string_item-3.ensures refl c.in_ok-items-5.ensures in
    let seen : value_of (List c.in_ok-items-5.items) ≡ list (values_of c.in_ok-items-5.items.items) = search (rules, the_lemmas) in
    seen ∙ ap (λ trees. list (row_of trees)) message
