use Rattle.std.proofs.Common.{◌≡◌, ◌++◌, drop}
use Rattle.std.specs.Prelude.{option_map}
use Rattle.items.specs.View.{values_of}
use Rattle.reporter.specs.Reporting.{failure_links}
use Rattle.reporter.proofs.answering.read_links.Given as goal

abbrev pub invariant-loop-item : goal.invariant-loop-item
invariant-loop-item l = failure_links (values_of l.items) ≡ option_map (λ ls. l.links ++ ls) (failure_links (values_of (drop l.item-index l.items)))
