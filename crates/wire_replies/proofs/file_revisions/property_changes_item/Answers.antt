use Rattle.std.proofs.Common.{rules, ◌≡◌, ◌+◌, [], ◌∷◌, ◌++◌, ◌∙◌, map, drop, ap, sym, append-nil, append_assoc}
use Rattle.std.proofs.lemmas.List.{drop_all, drop_more, map-append}
use Rattle.items.specs.{declared.item.Item.{List, the_lemmas}, Values.list, View.{row_of, value_of, values_of}}
use Rattle.wire_replies.proofs.PropertyRows.{property_change_tree, row_of-property_changes}
use Rattle.wire_replies.proofs.file_revisions.property_changes_item.Goals as goal

pub loop-change-preserved : goal.loop-change-preserved
loop-change-preserved c =
    let changes = c.as_slice-change-items.result.now in
    let i = c.loop-change.change-index in
    let before = c.loop-change.items.items in
    let rest = map property_change_tree (drop (i + 1) changes) in
    let next : drop i changes ≡ c.change-item.result ∷ drop (i + 1) changes =
    drop_more changes i c.change-item.result c.loop-change-test.true ∙ ap (λ x. x ∷ drop (i + 1) changes) (sym c.change-item.is) in
    let pushed : c.push.new.self.items ≡ before ++ c.in_ok-item.item ∷ [] = search rules in
    ap (λ items. map value_of items ++ rest) pushed
    ∙ ap (λ trees. trees ++ rest) (map-append value_of before (c.in_ok-item.item ∷ []))
    ∙ append_assoc (map value_of before) (value_of c.in_ok-item.item ∷ []) rest
    ∙ ap (λ tree. map value_of before ++ tree ∷ rest) c.in_ok-item.ensures
    ∙ ap (λ cs. map value_of before ++ map property_change_tree cs) (sym next)
    ∙ c.loop-change.invariant

pub returns : goal.returns
returns c =
    let made = c.loop-change.items in
    let seen : value_of (List made) ≡ list (values_of made.items) = search (rules, the_lemmas) in
    let rows : map value_of made.items ≡ map property_change_tree c.args.changes.now = search (rules, drop_all, append-nil) in
    seen ∙ ap list (ap row_of rows ∙ row_of-property_changes c.args.changes.now)
