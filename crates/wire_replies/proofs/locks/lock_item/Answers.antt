use Rattle.std.proofs.Common.{rules, ◌≡◌, ◌∙◌, map, ap, refl}
use Rattle.items.specs.{declared.item.Item.{List, the_lemmas}, Values.{list, string}, View.{row_of, value_of, values_of}}
use Rattle.wire_replies.proofs.Made.{made_behind}
use Rattle.wire_replies.proofs.locks.lock_item.Goals as goal

pub returns : goal.returns
returns c =
    let path = made_behind c.path_item.result _ _ _ _ _ (ap (λ items. map value_of items) c.new.ensures.items) c.path_item.ensures refl c.in_ok-items.ensures in
    let token = made_behind c.string_item.result _ _ _ _ _ path c.string_item.ensures (ap string c.as_slice.ensures) c.in_ok-items-2.ensures in
    let owner = made_behind c.string_item-2.result _ _ _ _ _ token c.string_item-2.ensures (ap string c.as_slice-2.ensures) c.in_ok-items-3.ensures in
    let comment = made_behind c.optional_string_item.result _ _ _ _ _ owner c.optional_string_item.ensures refl c.in_ok-items-4.ensures in
    let created = made_behind c.string_item-3.result _ _ _ _ _ comment c.string_item-3.ensures (ap string c.as_slice-3.ensures) c.in_ok-items-5.ensures in
    let row = made_behind c.list_item.result _ _ _ _ _ created c.list_item.ensures refl c.in_ok-items-6.ensures in
    let seen : value_of (List c.in_ok-items-6.items) ≡ list (values_of c.in_ok-items-6.items.items) = search (rules, the_lemmas) in
    seen ∙ ap (λ trees. list (row_of trees)) row
