use Rattle.std.proofs.Common.{sym, ap, ◌∙◌}
use Rattle.std.specs.{FinMap.get, FinMap.Entries.find}
use Rattle.shared_map.specs.Entries.{by_bytes, all_entries}
use Rattle.shared_map.proofs.Maps.{map_get}
use Rattle.shared_map.proofs.shared_map.SharedMap.get.Goals as goal

pub returns : goal.returns
returns g c =
    c.find.ensures ∙ ap (λ ps. find by_bytes c.args.name.now (all_entries ps)) c.deref.ensures.value
    ∙ sym (map_get c.args.name.now (all_entries c.self.inside.parts.items) c.self.invariant.sorted) ∙ ap (λ m. get m c.args.name.now) c.self.view_is
