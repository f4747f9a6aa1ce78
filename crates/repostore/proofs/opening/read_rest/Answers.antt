use Rattle.std.proofs.Common.{rules}
use Rattle.repostore.proofs.Readings.{reads_then}
use Rattle.repostore.proofs.opening.read_rest.Goals as goal

pub returns-in_err-read_revisions-clause-reads : goal.returns-in_err-read_revisions-clause-reads
returns-in_err-read_revisions-clause-reads g c = (c.read_revisions.ensures.reads.0, search rules)

pub returns-clause-reads : goal.returns-clause-reads
returns-clause-reads g c =
    let s = g.S.Store in
    (reads_then s c.args.store.now c.read_revisions.new.store c.read_locks.new.store c.read_revisions.ensures.reads.0 c.read_locks.ensures.reads.0, search rules)
