use Rattle.text_deltas.proofs.Alikes.{behind_more, behind_differ, behind_end_right}
use Rattle.text_deltas.proofs.shared.alike_at_end.Goals as goal

pub loop-count-preserved : goal.loop-count-preserved
loop-count-preserved c = behind_more _ _ _ _ c.loop-count-test.true c.if-count-text.true c.if-before-count.true c.loop-count.invariant

pub returns-else-before-count : goal.returns-else-before-count
returns-else-before-count c = behind_differ _ _ _ _ c.loop-count-test.true c.if-count-text.true c.if-before-count.false c.loop-count.invariant

pub returns-else-count-text : goal.returns-else-count-text
returns-else-count-text c = behind_end_right c.args.before.now c.args.text.now _ _ c.if-count-text.false c.loop-count.invariant
