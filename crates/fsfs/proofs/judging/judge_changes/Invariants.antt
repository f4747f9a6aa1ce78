use Rattle.std.proofs.Common.{◌≡◌, drop}
use Rattle.fsfs.specs.Judging.{judged_changes}
use Rattle.fsfs.proofs.judging.judge_changes.Given as goal

abbrev pub invariant-loop-change : goal.invariant-loop-change
invariant-loop-change l = judged_changes l.revision (drop l.change-index l.changes) ≡ judged_changes l.revision l.changes
