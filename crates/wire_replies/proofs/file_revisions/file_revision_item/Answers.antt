use Rattle.std.specs.Prelude.{Ok}
use Rattle.std.proofs.Common.{rules, ◌≡◌, ◌∙◌, map, ap, refl}
use Rattle.items.specs.{declared.item.Item.{List, the_lemmas}, Values.list, View.{row_of, value_of, values_of}}
use Rattle.wire_replies.proofs.Made.{made_behind}
use Rattle.wire_replies.proofs.file_revisions.file_revision_item.Goals as goal

pub returns : goal.returns
returns c =
    let path = made_behind c.path_item.result _ _ _ _ _ (ap (λ items. map value_of items) c.new.ensures.items) c.path_item.ensures refl c.in_ok-items.ensures in
    let revision = made_behind {E = Unit {0}} (Ok c.number_item.result) _ _ _ _ _ path c.number_item.ensures refl c.in_ok-items-2.ensures in
    let properties = made_behind c.properties_item.result _ _ _ _ _ revision c.properties_item.ensures refl c.in_ok-items-3.ensures in
    let changes = made_behind c.property_changes_item.result _ _ _ _ _ properties c.property_changes_item.ensures refl c.in_ok-items-4.ensures in
    let merged = made_behind c.boolean_item.result _ _ _ _ _ changes c.boolean_item.ensures refl c.in_ok-items-5.ensures in
    let seen : value_of (List c.in_ok-items-5.items) ≡ list (values_of c.in_ok-items-5.items.items) = search (rules, the_lemmas) in
    seen ∙ ap (λ trees. list (row_of trees)) merged
