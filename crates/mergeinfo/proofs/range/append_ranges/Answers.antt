use Rattle.std.proofs.Common.{arith}
use Rattle.mergeinfo.specs.Texts.{range_text}
use Rattle.mergeinfo.proofs.Joined.{appended_loop}
use Rattle.mergeinfo.proofs.range.append_ranges.Goals as goal

pub returns : goal.returns
returns c =
    appended_loop 44 range_text c.args.out.now.items _ _ c.in-Some.first.now c.in-Some.others.now _ c.loop-range.range-index c.in-Some.ensures.cases.0 c.in_ok-append_range.ensures
    (omega (arith, c.loop-range-test.false)) c.loop-range.invariant
