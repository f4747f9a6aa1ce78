use Rattle.std.proofs.{Common.{rules, ◌≡◌, [], ◌∷◌, ◌++◌, take, sym, ap, ◌∙◌, ◌+◌}, lemmas.List.take_more}
use Rattle.hub.specs.declared.calls.Call.{Call}
use Rattle.hub.proofs.Calling.{calls_next, calls_stop}
use Rattle.hub.proofs.calls.make_calls.Goals as goal

pub loop-call-preserved : goal.loop-call-preserved
loop-call-preserved g c =
    let calls = c.args.calls.now in
    let call = c.call-item.result in
    let i = c.loop-call.call-index in
    let front : take (i + 1) calls ≡ take i calls ++ call ∷ [] =
    take_more calls i call c.loop-call-test.true ∙ ap (λ (x : Call). take i calls ++ x ∷ []) (sym c.call-item.is) in
    let made = c.in_ok-add_call.ensures in
    calls_next c.args.hub.now (take i calls) (take (i + 1) calls) c.loop-call.outcomes.items c.add_call.new.outcomes.items c.loop-call.hub call made.0 c.add_call.new.hub
    front made.2 c.loop-call.invariant made.1

pub returns-in_err-add_call-clause-err : goal.returns-in_err-add_call-clause-err
returns-in_err-add_call-clause-err g c =
    let calls = c.args.calls.now in
    let call = c.call-item.result in
    let i = c.loop-call.call-index in
    let front : take (i + 1) calls ≡ take i calls ++ call ∷ [] =
    take_more calls i call c.loop-call-test.true ∙ ap (λ (x : Call). take i calls ++ x ∷ []) (sym c.call-item.is) in
    let made = c.in_err-add_call.ensures in
    let stops = calls_stop c.args.hub.now calls i c.loop-call.outcomes.items c.loop-call.hub call made.0 c.add_call.new.hub front c.loop-call.invariant made.1 in
    search rules
