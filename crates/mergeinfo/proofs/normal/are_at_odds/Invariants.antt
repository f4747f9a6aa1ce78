use Rattle.mergeinfo.proofs.Odds.{IsJudgedTo}
use Rattle.mergeinfo.proofs.normal.are_at_odds.Given as goal

abbrev pub invariant-loop-range : goal.invariant-loop-range
invariant-loop-range l = IsJudgedTo l.ranges l.range-items l.range-index l.inheritable_end l.other_end
