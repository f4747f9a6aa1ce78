-- The first of those that are left is the first of all.
use Rattle.std.proofs.Common.{◌≡◌}
use Rattle.std.specs.List.{find}
use Rattle.merge_queries.specs.Queries.{is_merge_name}
use Rattle.merge_queries.proofs.nearest.merge_value.Given as goal

abbrev pub invariant-loop-name : goal.invariant-loop-name
invariant-loop-name l =
    find (λ e. is_merge_name e.0) l.name-iterator ≡ find (λ e. is_merge_name e.0) l.properties
