-- The entries of the names so far are written.
use Rattle.std.proofs.Common.{map, drop}
use Rattle.std.specs.Map.Iter.{deref}
use Rattle.machine.specs.Readings.{entry_told}
use Rattle.wire_replies.proofs.{EntryRows.tree_of_entry, Row.Written}
use Rattle.session_reads.proofs.directories.say_all_entries.Given as goal

abbrev pub invariant-loop-name : goal.invariant-loop-name
invariant-loop-name g l =
    let told = entry_told (g.R.Repository.content l.view) l.place in
    Written tree_of_entry g.S.ReplySink.writes l.fn.out l.out (map told (map deref l.name-items)) (map told (map deref (drop l.name-index l.name-items)))
