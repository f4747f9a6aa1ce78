use Rattle.std.proofs.Common.{sym, subst}
use Rattle.repostore.specs.Reading.{with_read_locks}
use Rattle.filed_repository.specs.Reading.{AreRead}
use Rattle.filed_repository.proofs.Taken.{locks_read}
use Rattle.filed_repository.proofs.filed_world.FiledWorld.with_listed_locks.Goals as goal

pub returns-clause-read : goal.returns-clause-read
returns-clause-read c = λ file is files are.
    let old = c.args.self.now in
    let new = c.in_ok-world.world in
    let more = with_read_locks files file in
    subst (λ h. AreRead h new.locks.value c.in_ok-tables.tables old.current more)
    (sym c.in_ok-world.ensures.0)
    (subst (λ ts. AreRead old.world.held.value new.locks.value ts old.current more)
    (sym c.in_ok-tables.ensures)
    (locks_read old.world.held.value old.world.locks.value old.tables old.current files are
    c.args.locks.now file new.locks.value is c.in_ok-world.ensures.1))
