use Rattle.std.proofs.{Common.{rules, sym, ap, subst, ◌∙◌}, lemmas.List.Sorted.IsPartitionPoint-from_clause}
use Rattle.std.specs.{List.filter, List.Sorted.IsPartitionedBy, Ordering.is_lt}
use Rattle.svnpath.specs.Paths.{is_at_or_under, path_cmp}
use Rattle.repo_api.specs.Histories.{history_of}
use Rattle.replays.proofs.Runs.{IsInOrder, parted_before, parted_under, rest_is, run_in_order, run_is, run_of_run}
use Rattle.replays.proofs.listing.run_of.Goals as goal

pub returns : goal.returns
returns c = λ s n above is under.
    let path = c.args.path.now in
    let changes = c.args.changes.now in
    let order = subst IsInOrder (sym is) (run_in_order s n above) in
    let begins =
    IsPartitionPoint-from_clause (λ e. is_lt (path_cmp e.0 path)) changes c.partition_point-start.result c.partition_point-start.ensures.partitioned
    (parted_before path changes order) (λ a r q k. search rules) in
    let rest = c.split_at.ensures.back ∙ rest_is path changes c.partition_point-start.result c.partition_point-start.ensures.bound begins in
    let ends =
    IsPartitionPoint-from_clause (λ e. is_at_or_under e.0 path) c.split_at.result.1.now c.partition_point-end.result c.partition_point-end.ensures.partitioned
    (subst (IsPartitionedBy (λ e. is_at_or_under e.0 path)) (sym rest) (parted_under path changes order)) (λ a r q k. search rules) in
    c.split_at-2.ensures.front
    ∙ run_is path changes c.split_at.result.1.now c.partition_point-start.result c.partition_point-end.result c.partition_point-start.ensures.bound begins c.split_at.ensures.back
    c.partition_point-end.ensures.bound ends
    ∙ ap (filter (λ e. is_at_or_under e.0 path)) is
    ∙ run_of_run (history_of s n) path above under
