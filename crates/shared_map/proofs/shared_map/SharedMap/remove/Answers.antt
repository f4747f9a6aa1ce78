use Rattle.std.proofs.Common.{ap, ◌∙◌}
use Rattle.std.specs.FinMap.{remove}
use Rattle.shared_map.specs.Entries.{all_entries}
use Rattle.shared_map.proofs.{Copies.ok_then, Maps.map_remove}
use Rattle.shared_map.proofs.shared_map.SharedMap.remove.Goals as goal

pub returns-clause-ok : goal.returns-clause-ok
returns-clause-ok g c =
    ok_then c.remove_entry.result _ _
    (λ new. map_remove c.args.name.now (all_entries c.self.inside.parts.items) (all_entries c.remove_entry.new.parts.items) c.self.invariant.sorted new ∙ ap (λ m. remove m c.args.name.now) c.self.view_is)
    c.remove_entry.ensures.ok
