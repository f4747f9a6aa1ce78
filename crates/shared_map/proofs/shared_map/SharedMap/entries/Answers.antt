use Rattle.std.proofs.Common.{◌≡◌, map, sym, ap, ◌∙◌}
use Rattle.std.specs.{FinMap.entries, Map.Iter.deref}
use Rattle.shared_map.specs.Entries.{all_entries}
use Rattle.shared_map.proofs.{Copies.if_ok, Maps.{map_entries, names_rise}}
use Rattle.shared_map.proofs.shared_map.SharedMap.entries.Goals as goal

pub returns-clause-entries : goal.returns-clause-entries
returns-clause-entries g c =
    if_ok c.entries_of.result (λ list. map deref list.items ≡ all_entries c.deref.result.now) _
    (λ list is. is ∙ ap all_entries c.deref.ensures.value ∙ sym (map_entries (all_entries c.self.inside.parts.items) c.self.invariant.sorted) ∙ ap entries c.self.view_is)
    c.entries_of.ensures

pub returns-clause-ordered : goal.returns-clause-ordered
returns-clause-ordered g c = names_rise c.args.self.now
