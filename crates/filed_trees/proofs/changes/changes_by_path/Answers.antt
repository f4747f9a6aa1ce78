use Rattle.std.proofs.Common.{rules, ◌≡◌, [], Some, Err, sym, ap, subst, ◌∙◌}
use Rattle.std.specs.{Prelude.{is_some, IfOk, IsSome}, List.Sorted.IsStrictlySortedBy, Map.keys_of}
use Rattle.svnpath.specs.Paths.{path_cmp}
use Rattle.filed_trees.specs.{Changes.{ChangeRows, changes_by, with_rows}, Readable.Judges}
use Rattle.filed_trees.proofs.{InOrder.are_in_order, Judged.no_part, Said.{can_be_read, put_as_said}}
use Rattle.filed_trees.proofs.changes.changes_by_path.Goals as goal

pub returns-in_err-list-clause-judges : goal.returns-in_err-list-clause-judges
returns-in_err-list-clause-judges c =
    let fault = c.in_err-list.field-0.0 in
    let is : c.from_residual.result ≡ Err fault = search rules in
    subst (λ r. Judges r (IsSome (changes_by c.args.changes.now))) (sym is)
    (no_part fault (can_be_read c.args.changes.now) c.in_err-list.ensures.judges)

pub returns-then-are_rising-clause-sorted : goal.returns-then-are_rising-clause-sorted
returns-then-are_rising-clause-sorted c =
    subst (λ (l : ChangeRows). IsStrictlySortedBy path_cmp (keys_of l)) c.as_slice.ensures.value (c.are_rising.ensures.0 c.if-are_rising.true)

pub returns-then-are_rising-clause-changes : goal.returns-then-are_rising-clause-changes
returns-then-are_rising-clause-changes c =
    put_as_said c.args.changes.now c.in_ok-list.list.items c.in_ok-list.ensures.read
    ∙ are_in_order c.in_ok-list.list.items (returns-then-are_rising-clause-sorted c)

pub returns-then-are_rising-clause-judges : goal.returns-then-are_rising-clause-judges
returns-then-are_rising-clause-judges c = ap is_some (returns-then-are_rising-clause-changes c)

pub returns-clause-changes : goal.returns-clause-changes
returns-clause-changes c =
    let put : changes_by c.args.changes.now ≡ with_rows [] c.in_ok-list.list.items
    = put_as_said c.args.changes.now c.in_ok-list.list.items c.in_ok-list.ensures.read in
    subst (λ o. IfOk c.in_order.result (λ made. o ≡ Some made.items)) (sym put) c.in_order.ensures.changes

pub returns-clause-judges : goal.returns-clause-judges
returns-clause-judges c =
    let put : changes_by c.args.changes.now ≡ with_rows [] c.in_ok-list.list.items
    = put_as_said c.args.changes.now c.in_ok-list.list.items c.in_ok-list.ensures.read in
    subst (λ o. Judges c.in_order.result (IsSome o)) (sym put) c.in_order.ensures.judges
