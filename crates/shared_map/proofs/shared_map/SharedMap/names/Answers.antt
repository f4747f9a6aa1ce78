use Rattle.std.proofs.Common.{◌≡◌, map, sym, ap, ◌∙◌}
use Rattle.std.specs.{FinMap.keys, Map.keys_of, Map.Iter.deref}
use Rattle.shared_map.specs.Entries.{all_entries}
use Rattle.shared_map.proofs.{Copies.if_ok, Maps.{map_entries, names_rise}}
use Rattle.shared_map.proofs.shared_map.SharedMap.names.Goals as goal

pub returns-clause-names : goal.returns-clause-names
returns-clause-names g c =
    if_ok c.names_of.result (λ list. map deref list.items ≡ keys_of (all_entries c.deref.result.now)) _
    (λ list is. is ∙ ap (λ ps. keys_of (all_entries ps)) c.deref.ensures.value ∙ ap keys_of (sym (map_entries (all_entries c.self.inside.parts.items) c.self.invariant.sorted)) ∙ ap keys c.self.view_is)
    c.names_of.ensures

pub returns-clause-ordered : goal.returns-clause-ordered
returns-clause-ordered g c = names_rise c.args.self.now
