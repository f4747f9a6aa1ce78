use Rattle.std.proofs.{Common.{◌≤◌, ◌+◌, ◌-◌, length, arith}, lemmas.List.take_rest}
use Rattle.text_deltas.proofs.Groups.{group_more_behind}
use Rattle.text_deltas.proofs.shared.alike_in_groups_at_end.Goals as goal

pub loop-count-preserved : goal.loop-count-preserved
loop-count-preserved c =
    let xs = c.args.before.now in
    let ys = c.args.text.now in
    let i = c.loop-count.count in
    let within = c.loop-count.invariant.0 in
    let h : i + 32 ≤ length xs = omega (arith, c.loop-count-test.true, within, c.min-both.ensures) in
    let k : i + 32 ≤ length ys = omega (arith, c.loop-count-test.true, within, c.min-both.ensures) in
    let same = rw (take_rest xs (length xs - i - 32), take_rest ys (length ys - i - 32)) at (c.is_alike.ensures.0 c.if-is_alike.true) in
    (omega (arith, c.loop-count-test.true, within), group_more_behind xs ys i 32 _ h k same c.loop-count.invariant.1)
