use Rattle.std.proofs.Common.{ℕ, ◌≤◌, ◌+◌}
use Rattle.std.specs.Option.{option_map_or}
use Rattle.reporter.specs.Finding.{IsLastAt}
use Rattle.reporter.proofs.grafts.Grafts.last_at.Given as goal

-- it is the last of so many, and no fewer than are asked for
abbrev pub invariant-loop-found : goal.invariant-loop-found
invariant-loop-found l = (count : ℕ) × (l.count ≤ count) × IsLastAt l.path l.self count l.found

abbrev pub decreases-loop-found : goal.decreases-loop-found
decreases-loop-found l = option_map_or (λ place. place + 1) l.found 0
