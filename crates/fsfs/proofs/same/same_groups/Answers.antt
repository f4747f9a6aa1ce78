use Rattle.std.proofs.{Common.{◌≤◌, ◌+◌, length, arith}, lemmas.List.take_rest}
use Rattle.fsfs.proofs.SameBytes.{group_more}
use Rattle.fsfs.proofs.same.same_groups.Goals as goal

pub loop-count-preserved : goal.loop-count-preserved
loop-count-preserved c =
    let xs = c.args.bytes.now in
    let ys = c.args.others.now in
    let i = c.loop-count.count in
    let same = rw (take_rest xs i, take_rest ys i) at (c.is_group_same.ensures.0 c.if-is_group_same.true) in
    (omega (arith, c.loop-count-test.true, c.loop-count.invariant.0), group_more xs ys i 32 c.loop-count.invariant.1 same)
