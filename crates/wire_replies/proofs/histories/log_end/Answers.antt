use Rattle.std.proofs.Common.{codes, ap, ◌++◌, ◌∙◌, List, ℕ}
use Rattle.std.specs.Prelude.{Ok}
use Rattle.items.specs.{Print.printed, Values.{list, number}}
use Rattle.wire_replies.specs.Replies.{optional_string_trees}
use Rattle.wire_replies.proofs.Row.{made_behind, six_parts}
use Rattle.wire_replies.proofs.histories.log_end.Goals as goal

pub returns : goal.returns
returns c =
    let facts = c.args.facts.now in
    let revision = printed (number facts.revision) in
    let author = printed (list (optional_string_trees facts.author)) in
    let date = printed (list (optional_string_trees facts.date)) in
    let message = printed (list (optional_string_trees facts.message)) in
    let behind : List ℕ → List ℕ → List ℕ = λ part front. front ++ part in
    let first = made_behind {E = Unit {0}} (Ok c.number_item.result) _ c.write_made.new.out.items _ c.number_item.ensures c.in_ok-write_made.ensures.ok in
    let second = made_behind c.optional_string_item.result _ c.write_made-2.new.out.items _ c.optional_string_item.ensures c.in_ok-write_made-2.ensures.ok in
    let third = made_behind c.optional_string_item-2.result _ c.write_made-3.new.out.items _ c.optional_string_item-2.ensures c.in_ok-write_made-3.ensures.ok in
    let fourth = made_behind c.optional_string_item-3.result _ c.write_made-4.new.out.items _ c.optional_string_item-3.ensures c.in_ok-write_made-4.ensures.ok in
    c.in_ok-extend_from_slice.ensures.items
    ∙ ap (behind (codes ") ")) (fourth ∙ ap (behind message) (third ∙ ap (behind date) (second ∙ ap (behind author) (first ∙ ap (behind revision) c.in_ok-bytes.ensures.items))))
    ∙ six_parts (codes ") ") revision author date message (codes ") ")
