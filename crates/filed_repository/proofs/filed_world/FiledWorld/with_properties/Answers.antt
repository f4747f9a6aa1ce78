use Rattle.std.proofs.Common.{sym, subst}
use Rattle.repostore.specs.Files.{with_properties}
use Rattle.filed_repository.specs.Files.{AreFilesOf}
use Rattle.filed_repository.proofs.Changed.{properties_changed}
use Rattle.filed_repository.proofs.filed_world.FiledWorld.with_properties.Goals as goal

pub returns-clause-files : goal.returns-clause-files
returns-clause-files c = λ files is.
    let old = c.args.self.now in
    let new = c.args.world in
    let bytes = c.in_ok-file.file.items in
    let after = with_properties files c.args.revision bytes in
    let both = properties_changed old.world.held.value old.world.locks.value old.tables old.current
    files is new.held.value c.args.revision c.in-Some.list.now bytes c.requires.same
    c.requires.uuid c.requires.other (sym c.in-Some.ensures) c.in_ok-file.ensures in (
      subst (λ ls. AreFilesOf new.held.value ls c.in_ok-tables.tables old.current after)
          (sym c.requires.locks)
          (subst (λ ts. AreFilesOf new.held.value old.world.locks.value ts old.current after)
          (sym c.in_ok-tables.ensures) both.0),
      both.1,
    )
