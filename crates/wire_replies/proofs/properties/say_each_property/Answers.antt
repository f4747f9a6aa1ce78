use Rattle.std.proofs.{Common.{ℕ, List, ap, subst}, lemmas.Result.err_from_is_err_and}
use Rattle.items.specs.Print.{row_printed}
use Rattle.wire_replies.proofs.{PropertyRows.{property_tree, row_of-properties}, Row.{all_written, one_unwritten, one_written}}
use Rattle.wire_replies.proofs.properties.say_each_property.Goals as goal

pub loop-name-preserved : goal.loop-name-preserved
loop-name-preserved g c =
    one_written property_tree g.S.ReplySink.writes g.met.S.ReplySink.more _ _ _ c.args.properties.now _ c.next.new.self (c.in-Some.name.now, c.in-Some.value.now)
    c.in-Some.ensures.steps c.loop-name.invariant (c.in_ok-say_item.ensures _ c.property_item.ensures)

pub returns-in_err-say_item : goal.returns-in_err-say_item
returns-in_err-say_item g c =
    let p = err_from_is_err_and c.from_residual.result c.from_residual.ensures.1 in
    let all = c.args.properties.now in
    rw (p.1) (rw (ap row_printed (row_of-properties all)) at
    (one_unwritten property_tree g.S.ReplySink.writes g.met.S.ReplySink.more _ _ _ all _ c.next.new.self (c.in-Some.name.now, c.in-Some.value.now)
    c.in-Some.ensures.steps c.loop-name.invariant (c.in_err-say_item.ensures _ c.property_item.ensures)))

pub returns : goal.returns
returns g c =
    let all = c.args.properties.now in
    subst (λ (bytes : List ℕ). g.S.ReplySink.writes c.args.out.now c.loop-name.out bytes) (ap row_printed (row_of-properties all))
    (all_written property_tree g.S.ReplySink.writes _ _ all _ c.in-None.ensures.steps.0 c.loop-name.invariant)
