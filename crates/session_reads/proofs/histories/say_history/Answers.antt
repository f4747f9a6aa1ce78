use Rattle.session_reads.proofs.histories.say_history.Goals as goal

pub returns-in-GetDeletedRev : goal.returns-in-GetDeletedRev
returns-in-GetDeletedRev g c = rw c.in-GetDeletedRev.is (c.say_made.ensures _ c.get_deleted_rev.ensures)
