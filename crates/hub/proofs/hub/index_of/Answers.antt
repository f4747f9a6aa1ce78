use Rattle.std.proofs.{Common.{length, refl, arith}, lemmas.Option.slice_get_read}
use Rattle.hub.proofs.Places.{finds, none_more, none_to, none_found}
use Rattle.hub.proofs.hub.index_of.Goals as goal

pub loop-i-init : goal.loop-i-init
loop-i-init g c = λ k lt y at e. omega arith

pub returns-then-entry-number : goal.returns-then-entry-number
returns-then-entry-number g c =
    let xs = c.args.sessions.now in
    let x = c.index-sessions-i.result in
    finds xs c.args.number c.loop-i.i x (slice_get_read xs (length xs) c.loop-i.i x refl c.loop-i-test.true c.index-sessions-i.is) c.if-entry-number.true c.loop-i.invariant

pub loop-i-preserved : goal.loop-i-preserved
loop-i-preserved g c =
    let xs = c.args.sessions.now in
    let x = c.index-sessions-i.result in
    none_more xs c.args.number c.loop-i.i x c.loop-i.invariant (slice_get_read xs (length xs) c.loop-i.i x refl c.loop-i-test.true c.index-sessions-i.is) c.if-entry-number.false

pub returns : goal.returns
returns g c =
    let xs = c.args.sessions.now in
    none_found xs c.args.number (none_to xs c.args.number c.loop-i.i c.loop-i.invariant c.loop-i-test.false)
