use Rattle.std.proofs.Common.{◌≡◌, drop}
use Rattle.fsfs.specs.Judging.{judged_entries}
use Rattle.fsfs.proofs.judged_entries.judge_entries.Given as goal

abbrev pub invariant-loop-entry : goal.invariant-loop-entry
invariant-loop-entry l = judged_entries l.revision l.kinds.entries (drop l.entry-index l.entries) ≡ judged_entries l.revision l.kinds.entries l.entries
