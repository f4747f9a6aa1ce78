use Rattle.std.specs.Prelude.{Ok, List, ℕ, Option}
use Rattle.repostore.specs.Saving.{Going, Stands}
use Rattle.repository_creation.specs.Migrating.{HasSome, IsFree, IsStep}
use Rattle.repository_creation.proofs.migrating.copy_revisions.Given as goal

-- so many revisions were copied
abbrev pub invariant-loop-number : goal.invariant-loop-number
invariant-loop-number g l = record {
  step : IsStep {R = Unit {0}} g.S.Store g.T.Store l.fn.from l.from l.fn.to l.to (Ok tt);
  moves : g.S.Store.is_honest l.from → (there : Option (List ℕ))
      → Stands g.T.Store l.fn.to (HasSome there l.fn.course.from (g.S.Store.holds l.fn.from) l.fn.course.to 0)
      → Going g.T.Store l.fn.to l.to IsFree (HasSome there l.fn.course.from (g.S.Store.holds l.fn.from) l.fn.course.to l.number);
}
