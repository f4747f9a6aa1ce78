use Rattle.std.proofs.Common.{◌+◌, refl, arith, subst, sym, ◌∙◌}
use Rattle.mergeinfo.proofs.Odds.{IsJudgedTo, judged_none, judged_inheritable, judged_other, odd_inheritable, odd_other, none_at_odds}
use Rattle.mergeinfo.proofs.normal.are_at_odds.Goals.{then-range+else-first-other_end, else-range+else-first-inheritable_end}
use Rattle.mergeinfo.proofs.normal.are_at_odds.Goals as goal

pub loop-range-init : goal.loop-range-init
loop-range-init c =
    judged_none _ _ _ c.as_slice-range-items.ensures.value c.in_ok-sorted.ensures.same c.in_ok-sorted.ensures.sorted c.requires

pub returns-then-first-other_end : goal.returns-then-first-other_end
returns-then-first-other_end c =
    odd_inheritable _ _ _ _ _ _ _ c.loop-range-test.true refl c.if-range.true (omega (arith, c.if-first-other_end.true)) c.loop-range.invariant

pub returns-then-first-inheritable_end : goal.returns-then-first-inheritable_end
returns-then-first-inheritable_end c =
    odd_other _ _ _ _ _ _ _ c.loop-range-test.true refl c.if-range.false (omega (arith, c.if-first-inheritable_end.true)) c.loop-range.invariant

pub loop-range-preserved : goal.loop-range-preserved
loop-range-preserved c = elim c.if-range.branch [
  | then-range+else-first-other_end w ↦
      subst (λ n. IsJudgedTo c.args.ranges.now c.as_slice-range-items.result.now (c.loop-range.range-index + 1) c.if-range.inheritable_end n) (sym w.other_end-is)
      (judged_inheritable _ _ _ _ _ _ _ _ c.loop-range-test.true refl w.if-range.true (omega (arith, w.if-first-other_end.false))
      (w.inheritable_end-is ∙ w.max-inheritable_end.ensures) c.loop-range.invariant)
  | else-range+else-first-inheritable_end w ↦
      subst (λ n. IsJudgedTo c.args.ranges.now c.as_slice-range-items.result.now (c.loop-range.range-index + 1) n c.if-range.other_end) (sym w.inheritable_end-is)
      (judged_other _ _ _ _ _ _ _ _ c.loop-range-test.true refl w.if-range.false (omega (arith, w.if-first-inheritable_end.false))
      (w.other_end-is ∙ w.max-other_end.ensures) c.loop-range.invariant)
]

pub returns : goal.returns
returns c = none_at_odds _ _ _ _ _ (omega (arith, c.loop-range-test.false)) c.loop-range.invariant
