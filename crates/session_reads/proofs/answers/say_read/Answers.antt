use Rattle.session_reads.proofs.answers.say_read.Goals as goal

pub returns-in-GetLatestRev : goal.returns-in-GetLatestRev
returns-in-GetLatestRev g c = rw c.in-GetLatestRev.is (rw c.youngest.ensures at c.say_new.ensures)

pub returns-in-CheckPath : goal.returns-in-CheckPath
returns-in-CheckPath g c = rw c.in-CheckPath.is (c.say_made.ensures _ c.check_path.ensures)

pub returns-in-RevProplist : goal.returns-in-RevProplist
returns-in-RevProplist g c = rw c.in-RevProplist.is c.say_rev_proplist.ensures

pub returns-in-GetLock : goal.returns-in-GetLock
returns-in-GetLock g c = rw c.in-GetLock.is (c.say_made-in-GetLock.ensures _ c.get_lock.ensures)

pub returns-in-GetLocks : goal.returns-in-GetLocks
returns-in-GetLocks g c = rw c.in-GetLocks.is c.say_locks_under.ensures

pub returns-in-GetDir : goal.returns-in-GetDir
returns-in-GetDir g c = rw c.in-GetDir.is c.say_dir.ensures

pub returns-in-Stat : goal.returns-in-Stat
returns-in-Stat g c = rw c.in-Stat.is (c.say_made-in-Stat.ensures _ c.stat.ensures)

pub returns-in-RevProp : goal.returns-in-RevProp
returns-in-RevProp g c = rw c.in-RevProp.is (c.say_made-in-RevProp.ensures _ (rw c.as_slice-in-RevProp.ensures at c.rev_prop.ensures))
