use Rattle.std.proofs.{Common.{◌++◌, map, sym, ap, ◌∙◌}, lemmas.List.append-nil}
use Rattle.std.specs.{Map.Iter.deref_pair, Prelude.option_copied}
use Rattle.pathlocks.proofs.Ways.{left, finds_below, finds_after, finds_none}
use Rattle.pathlocks.proofs.finding.append_in_the_way.Goals as goal

pub loop-path-preserved-then-not-is_below : goal.loop-path-preserved-then-not-is_below
loop-path-preserved-then-not-is_below c =
    finds_after _ _ (option_copied c.loop-path.top) (option_copied c.new_top-top.result) c.loop-path.path-iterator (c.in-Some.path.now, c.in-Some.change.now) c.next.new.self c.args.locks.now.entries _
    c.in-Some.ensures.steps (sym c.if-not-is_below.ensures) c.note_order.ensures c.in_ok-append_reached.ensures c.new_top-top.ensures c.loop-path.invariant

pub loop-path-preserved : goal.loop-path-preserved
loop-path-preserved c =
    finds_below _ (option_copied c.loop-path.top) c.loop-path.path-iterator (c.in-Some.path.now, c.in-Some.change.now) c.next.new.self c.args.locks.now.entries _
    c.in-Some.ensures.steps (sym c.if-not-is_below.ensures) c.loop-path.invariant

pub returns-clause-ok : goal.returns-clause-ok
returns-clause-ok c =
    sym (append-nil (map deref_pair c.loop-path.found.items))
    ∙ ap (λ xs. map deref_pair c.loop-path.found.items ++ xs) (sym (finds_none (option_copied c.loop-path.top) c.args.locks.now.entries))
    ∙ ap (λ cs. map deref_pair c.loop-path.found.items ++ left (option_copied c.loop-path.top) cs c.args.locks.now.entries) (sym c.in-None.ensures.steps.0)
    ∙ c.loop-path.invariant.0
