use Rattle.std.proofs.Common.{sym, subst}
use Rattle.filed_repository.specs.Reading.{AreRead}
use Rattle.filed_repository.proofs.Taken.{first_read}
use Rattle.filed_repository.proofs.filed_world.FiledWorld.unread.Goals as goal

pub returns-in-Ok-clause-read : goal.returns-in-Ok-clause-read
returns-in-Ok-clause-read c =
    let world = c.args.world in (
      c.in-Ok.ensures,
      λ uuid date files same first.
          subst (λ ts. AreRead world.held.value world.locks.value ts c.args.current files)
          (sym c.in-Ok.ensures)
          (first_read world.held.value world.locks.value c.args.current uuid date files
          c.nothing_is_tabled.ensures same first),
    )
