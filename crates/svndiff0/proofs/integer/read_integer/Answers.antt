use Rattle.std.proofs.Common.{arith, ◌∙◌, sym}
use Rattle.svndiff0.proofs.Integers.{scanned_start, below_ninth, one_too_many}
use Rattle.svndiff0.proofs.integer.read_integer.Goals as goal

pub loop-init : goal.loop-init
loop-init c = scanned_start c.args.bytes.now

pub overflow_mul-result : goal.overflow_mul-result
overflow_mul-result c = omega (arith, below_ninth _ _ _ _ c.loop.invariant c.loop-test.true)

pub overflow_add-result : goal.overflow_add-result
overflow_add-result c = omega (arith, below_ninth _ _ _ _ c.loop.invariant c.loop-test.true)

pub returns-then-byte-lt128-clause-small : goal.returns-then-byte-lt128-clause-small
returns-then-byte-lt128-clause-small c = omega (arith, below_ninth _ _ _ _ c.loop.invariant c.loop-test.true)

pub overflow_mul-value : goal.overflow_mul-value
overflow_mul-value c = omega (arith, below_ninth _ _ _ _ c.loop.invariant c.loop-test.true)

pub overflow_add-value : goal.overflow_add-value
overflow_add-value c = omega (arith, below_ninth _ _ _ _ c.loop.invariant c.loop-test.true)

pub returns-else-is_empty-clause-value : goal.returns-else-is_empty-clause-value
returns-else-is_empty-clause-value c = one_too_many _ _ _ _ c.loop.invariant c.loop-test.false (sym c.is_empty.ensures ∙ c.if-is_empty.false)
