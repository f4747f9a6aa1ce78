use Rattle.filed_repository.proofs.{Next.{first_comes, nothing}, Taken.ok_then, First.{list_with, new_with}}
use Rattle.std.proofs.Common.{◌≡◌, Some, ap}
use Rattle.std.specs.{Prelude.is_some, Result.result_ok}
use Rattle.fsfs_nodes.specs.Properties.{properties_of}
use Rattle.filed_trees.proofs.Judged.{still_judged}
use Rattle.filed_repository.proofs.filed_world.FiledWorld.with_first_revision.Goals as goal

pub returns-clause-read : goal.returns-clause-read
returns-clause-read c =
    let f = c.args.self.now in
    let none = nothing f.tables c.requires in
    ok_then c.with_read_revision.result (λ made next files read. next
    (first_comes f.world c.in_ok-world.world f.tables c.in_ok-list.list c.in_ok-world.ensures.locks none (read.begins none).one
    c.in_ok-world.ensures.held)
    (new_with f.world.held.value c.in_ok-world.world.held.value c.in_ok-list.list (read.begins none) c.in_ok-world.ensures.held)
    files read)
    c.with_read_revision.ensures.read

pub returns-clause-judges : goal.returns-clause-judges
returns-clause-judges c = λ new.
    let h = c.args.self.now.world.held.value in
    let after = c.in_ok-world.world.held.value in
    let list = c.in_ok-list.list in
    let held = c.in_ok-world.ensures.held in
    let read : result_ok (properties_of c.args.properties.now) ≡ Some list = ap result_ok c.in_ok-list.ensures in
    still_judged c.with_read_revision.result
    (c.with_read_revision.ensures.judges list (new_with h after list new held) (list_with h after list new held))
    (λ p. (p.0, ap is_some p.1)) (λ p. (p.0, read))
