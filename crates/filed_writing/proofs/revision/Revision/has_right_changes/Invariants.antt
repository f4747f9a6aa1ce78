use Rattle.std.proofs.Common.{All, take}
use Rattle.filed_writing.proofs.Keeping.{Keeps}
use Rattle.filed_writing.proofs.revision.Revision.has_right_changes.Given as goal

abbrev pub invariant-loop-change : goal.invariant-loop-change
invariant-loop-change l = All (Keeps l.self.number) (take l.change-index l.self.changes.now)
