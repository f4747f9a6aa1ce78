use Rattle.std.proofs.Common.{ap, ◌∙◌}
use Rattle.std.specs.{FinMap.insert, FinMap.Entries.put}
use Rattle.shared_map.specs.Entries.{by_bytes, all_entries}
use Rattle.shared_map.proofs.{Copies.ok_then, Maps.map_put}
use Rattle.shared_map.proofs.shared_map.SharedMap.put.Goals as goal

pub returns-clause-ok : goal.returns-clause-ok
returns-clause-ok g c =
    ok_then c.put_entry.result _ _
    (λ new. map_put c.args.name c.args.value (all_entries c.self.inside.parts.items) (all_entries c.put_entry.new.parts.items) c.self.invariant.sorted
    (new ∙ ap (λ p. put by_bytes p.0 p.1 (all_entries c.self.inside.parts.items)) c.in_ok-entry.ensures.ok) ∙ ap (λ m. insert m c.args.name c.args.value) c.self.view_is)
    c.put_entry.ensures.ok
