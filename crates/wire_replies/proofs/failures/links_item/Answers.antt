use Rattle.std.proofs.{Common.{rules, ◌≡◌, ◌∙◌, map, ap, append-nil}, lemmas.List.drop_all}
use Rattle.items.specs.{declared.item.Item.{List, the_lemmas}, Values.list, View.{row_of, value_of, values_of}}
use Rattle.wire_replies.specs.Replies.{link_item}
use Rattle.wire_replies.proofs.FailureRows.{row_of-links}
use Rattle.wire_replies.proofs.failures.links_item.Goals as goal

pub returns : goal.returns
returns c =
    let made = c.loop-link.items in
    let seen : value_of (List made) ≡ list (values_of made.items) = search (rules, the_lemmas) in
    let rows : map value_of made.items ≡ map link_item c.args.links.now = search (rules, drop_all, append-nil) in
    seen ∙ ap list (ap row_of rows ∙ row_of-links c.args.links.now)
