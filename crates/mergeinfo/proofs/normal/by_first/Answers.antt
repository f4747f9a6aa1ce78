use Rattle.std.proofs.{Common.rules, lemmas.List.Sorted.IsNonDecreasingBy-from_sort_by_key}
use Rattle.mergeinfo.proofs.normal.by_first.Goals as goal

pub returns-clause-sorted : goal.returns-clause-sorted
returns-clause-sorted c = IsNonDecreasingBy-from_sort_by_key (λ range. range.first) _ c.in_ok-sort_by_key.ensures.sorted (λ a r q k. search rules)
