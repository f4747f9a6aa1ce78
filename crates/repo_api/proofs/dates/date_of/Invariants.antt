-- The first of those that are left is the first of all.
use Rattle.std.proofs.Common.{◌≡◌}
use Rattle.std.specs.List.{find}
use Rattle.repo_api.specs.Dates.{is_date_name}
use Rattle.repo_api.proofs.dates.date_of.Given as goal

abbrev pub invariant-loop-name : goal.invariant-loop-name
invariant-loop-name l =
    find (λ e. is_date_name e.0) l.name-iterator ≡ find (λ e. is_date_name e.0) l.properties
