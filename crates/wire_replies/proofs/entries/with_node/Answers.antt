use Rattle.std.specs.Prelude.{Ok}
use Rattle.std.proofs.Common.{◌∙◌, map, ap, refl}
use Rattle.items.specs.{Values.word, View.value_of}
use Rattle.wire_replies.proofs.Made.{made_behind, if_made, six_behind}
use Rattle.wire_replies.proofs.entries.with_node.Goals as goal

pub returns : goal.returns
returns c =
    let kind = made_behind c.word_item.result c.args.items.items _ _ _ _ refl c.word_item.ensures (ap word c.kind_name.ensures.value) c.in_ok-items.ensures in
    let size = made_behind {E = Unit {0}} (Ok c.number_item.result) _ _ _ _ _ kind c.number_item.ensures refl c.in_ok-items-2.ensures in
    let properties = made_behind c.boolean_item.result _ _ _ _ _ size c.boolean_item.ensures refl c.in_ok-items-3.ensures in
    let created = made_behind {E = Unit {0}} (Ok c.number_item-2.result) _ _ _ _ _ properties c.number_item-2.ensures refl c.in_ok-items-4.ensures in
    let date = made_behind c.optional_string_item.result _ _ _ _ _ created c.optional_string_item.ensures refl c.in_ok-items-5.ensures in
    if_made c.with_made-6.result _ _
    (λ longer grown. made_behind c.optional_string_item-2.result _ longer.items _ _ _ date c.optional_string_item-2.ensures refl grown
    ∙ six_behind (map value_of c.args.items.items) _ _ _ _ _ _)
    c.with_made-6.ensures
