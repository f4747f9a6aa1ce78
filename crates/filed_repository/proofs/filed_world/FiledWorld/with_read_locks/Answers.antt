use Rattle.std.proofs.Common.{Some, sym, ap, ◌∙◌}
use Rattle.std.specs.Prelude.{option_copied}
use Rattle.filed_repository.proofs.filed_world.FiledWorld.with_read_locks.Goals as goal

pub returns : goal.returns
returns c = c.in_ok-with_listed_locks.ensures.read (option_copied c.args.locks)
    (c.in_ok-listed.ensures.ok ∙ ap Some (sym c.as_slice.ensures.value))
