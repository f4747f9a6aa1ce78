use Rattle.std.proofs.Common.{◌≡◌, ◌&&◌, length, take}
use Rattle.std.specs.Prelude.{nat_lt}
use Rattle.svnpath.specs.Paths.{is_at_or_under}
use Rattle.reporter.specs.Finding.{IsLastOf}
use Rattle.reporter.proofs.grafts.Grafts.last_above.Given as goal

-- it is the last of those with fewer names
abbrev pub invariant-loop-name : goal.invariant-loop-name
invariant-loop-name l =
    (l.above ≡ take l.name-index l.path)
    × IsLastOf (λ g. is_at_or_under l.path g.path && nat_lt (length g.path) l.name-index) l.self l.count l.last
