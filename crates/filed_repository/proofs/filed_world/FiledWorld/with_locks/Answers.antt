use Rattle.std.proofs.Common.{sym, subst}
use Rattle.repostore.specs.Files.{with_locks}
use Rattle.filed_repository.specs.Files.{AreFilesOf}
use Rattle.filed_repository.proofs.Changed.{locks_changed}
use Rattle.filed_repository.proofs.filed_world.FiledWorld.with_locks.Goals as goal

pub returns-clause-files : goal.returns-clause-files
returns-clause-files c = λ files is.
    let old = c.args.self.now in
    let bytes = c.in_ok-file.file.items in
    subst (λ h. AreFilesOf h c.args.world.locks.value c.in_ok-tables.tables old.current (with_locks files bytes))
    (sym c.requires)
    (subst (λ ts. AreFilesOf old.world.held.value c.args.world.locks.value ts old.current (with_locks files bytes))
    (sym c.in_ok-tables.ensures)
    (locks_changed old.world.held.value old.world.locks.value old.tables
    old.current files is c.args.world.locks.value bytes c.in_ok-file.ensures))
