-- The changes so far are written.
use Rattle.std.proofs.Common.{map, drop}
use Rattle.std.specs.Map.Iter.{deref_pair}
use Rattle.machine.specs.Histories.{change_told}
use Rattle.wire_replies.specs.Replies.{change_tree}
use Rattle.wire_replies.proofs.Row.{Written}
use Rattle.session_reads.proofs.log_entries.say_all_changes.Given as goal

abbrev pub invariant-loop-path : goal.invariant-loop-path
invariant-loop-path g l =
    let told = change_told (g.R.Repository.content l.view) l.revision in
    Written change_tree g.S.ReplySink.writes l.fn.out l.out (map told (map deref_pair l.path-items)) (map told (map deref_pair (drop l.path-index l.path-items)))
