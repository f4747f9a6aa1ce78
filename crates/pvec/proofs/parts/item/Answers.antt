use Rattle.std.proofs.Common.{◌-◌, ◌*◌, length, arith, ◌∙◌}
use Rattle.pvec.proofs.Counted.{within, got_first, got_second, got_third}
use Rattle.pvec.proofs.parts.item.Goals as goal

pub overflow_mul-in_full : goal.overflow_mul-in_full
overflow_mul-in_full g c =
    let all = within c.args.branches.now c.args.leaves.now c.args.tail.now c.requires in
    omega (arith, all)

pub overflow_mul-in_full-2 : goal.overflow_mul-in_full-2
overflow_mul-in_full-2 g c =
    let all = within c.args.branches.now c.args.leaves.now c.args.tail.now c.requires in
    omega (arith, all)

pub returns-then-place-in_full : goal.returns-then-place-in_full
returns-then-place-in_full g c =
    let inside = c.if-place-in_full.true in
    c.in_branches.ensures ∙ got_first c.args.branches.now c.args.leaves.now c.args.tail.now c.requires c.args.place (omega (arith, inside))

pub returns-then-behind-in_full : goal.returns-then-behind-in_full
returns-then-behind-in_full g c =
    let past = c.if-place-in_full.false in
    let inside = c.if-behind-in_full.true in
    c.in_leaves.ensures
    ∙ got_second c.args.branches.now c.args.leaves.now c.args.tail.now c.requires c.args.place _ (omega (arith, past)) (omega (arith, inside))

pub returns : goal.returns
returns g c =
    let past = c.if-place-in_full.false in
    let more = c.if-behind-in_full.false in
    c.part.ensures
    ∙ got_third c.args.branches.now c.args.leaves.now c.args.tail.now c.requires c.args.place (c.args.place - length c.args.branches.now * 4096) _ (omega (arith, past)) (omega (arith, more, past))
