use Rattle.std.proofs.{Common.{of_calls, rules, sym, ap, subst, ◌∙◌}, lemmas.Bool.false≢true}
use Rattle.std.specs.{Prelude.is_some, List.Sorted.IsStrictlySortedBy, Map.keys_of}
use Rattle.svnpath.specs.Paths.{path_cmp}
use Rattle.filed_trees.specs.Changes.{ChangeRows}
use Rattle.filed_trees.proofs.InOrder.{in_order, sorted_rise}
use Rattle.filed_trees.proofs.changes.in_order.Goals as goal

pub returns-then-are_rising-clause-sorted : goal.returns-then-are_rising-clause-sorted
returns-then-are_rising-clause-sorted c =
    subst (λ (l : ChangeRows). IsStrictlySortedBy path_cmp (keys_of l)) c.as_slice.ensures.value (c.are_rising.ensures.0 c.if-are_rising.true)

pub returns-then-are_rising-clause-changes : goal.returns-then-are_rising-clause-changes
returns-then-are_rising-clause-changes c =
    in_order c.args.changes.items c.sort_by.new.self.items c.in_ok-sort_by.ensures.permutation (returns-then-are_rising-clause-sorted c)

pub returns-then-are_rising-clause-judges : goal.returns-then-are_rising-clause-judges
returns-then-are_rising-clause-judges c = ap is_some (returns-then-are_rising-clause-changes c)

pub returns-else-are_rising-clause-judges : goal.returns-else-are_rising-clause-judges
returns-else-are_rising-clause-judges c = λ can.
    false≢true (sym c.if-are_rising.false
    ∙ c.are_rising.ensures.1 (subst (λ (l : ChangeRows). IsStrictlySortedBy path_cmp (keys_of l)) (sym c.as_slice.ensures.value)
    (sorted_rise c.args.changes.items c.sort_by.new.self.items c.in_ok-sort_by.ensures.permutation c.in_ok-sort_by.ensures.sorted
    (λ a o f' k. search (rules, of_calls)) can)))
