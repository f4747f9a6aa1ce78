-- What was told so far, and what is left, is all of it.
use Rattle.std.proofs.Common.{◌≡◌, ◌++◌}
use Rattle.std.specs.Prelude.{map}
use Rattle.drive_news.specs.Parts.{changes_named}
use Rattle.drive_news.proofs.property_changes.with_named.Given as goal

abbrev pub invariant-loop-name : goal.invariant-loop-name
invariant-loop-name l =
    l.changes ++ changes_named l.old l.new (map (λ p. p.0) l.name-iterator) ≡ l.fn.changes ++ changes_named l.old l.new (map (λ p. p.0) l.names)
