-- The changes so far are written.
use Rattle.std.proofs.Common.{drop}
use Rattle.wire_replies.proofs.{PropertyRows.property_change_tree, Row.Written}
use Rattle.wire_replies.proofs.file_revisions.say_each_change.Given as goal

abbrev pub invariant-loop-change : goal.invariant-loop-change
invariant-loop-change g l =
    Written property_change_tree g.S.ReplySink.writes l.fn.out l.out l.change-items (drop l.change-index l.change-items)
