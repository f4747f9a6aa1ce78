use Rattle.svndiff0.specs.Document.{header_at}
use Rattle.svndiff0.proofs.Headers.{header_none, header_wrong, header_right}
use Rattle.svndiff0.proofs.reading.skip_header.Goals as goal

pub returns-in_default : goal.returns-in_default
unfolding header_at
returns-in_default c = header_none c.args.bytes.now _ _ c.loop-wanted-test.true c.in_default.ensures.cases c.loop-wanted.invariant

pub returns-then-byte-wanted : goal.returns-then-byte-wanted
unfolding header_at
returns-then-byte-wanted c = header_wrong c.args.bytes.now _ _ _ _ c.loop-wanted-test.true c.if-byte-wanted.true c.in-Some.ensures.cases.0 c.loop-wanted.invariant

pub loop-wanted-preserved : goal.loop-wanted-preserved
loop-wanted-preserved c = header_right c.args.bytes.now _ _ _ _ c.loop-wanted-test.true c.if-byte-wanted.false c.in-Some.ensures.cases.0 c.loop-wanted.invariant
