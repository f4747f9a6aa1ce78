use Rattle.std.proofs.Common.{arith}
use Rattle.mergeinfo.specs.Texts.{source_text}
use Rattle.mergeinfo.proofs.Joined.{appended_loop}
use Rattle.mergeinfo.proofs.info.append_sources.Goals as goal

pub returns : goal.returns
returns c =
    appended_loop 10 source_text c.args.out.now.items _ _ c.in-Some.first.now c.in-Some.others.now _ c.loop-source.source-index c.in-Some.ensures.cases.0 c.in_ok-append_source.ensures
    (omega (arith, c.loop-source-test.false)) c.loop-source.invariant
