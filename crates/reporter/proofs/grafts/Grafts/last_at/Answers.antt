use Rattle.std.proofs.Common.{subst}
use Rattle.reporter.specs.Finding.{AreFound, IsLastAt}
use Rattle.reporter.proofs.Finding.{before_it, smaller}
use Rattle.reporter.proofs.grafts.Grafts.last_at.Goals as goal

pub loop-found-smaller : goal.loop-found-smaller
loop-found-smaller c =
    let kept = c.loop-found.invariant in
    let at = subst (λ o. IsLastAt c.args.path.now c.args.self.now kept.0 o) c.in-Some.is kept.2 in
    let found = subst (λ gs. AreFound gs c.self.inside.index.newest.entries c.self.inside.index.older.items) c.self.view_is c.self.invariant.1 in
    smaller c.args.self.now c.args.path.now c.in-Some.place c.index-found.result.now c.loop-found.found
    (before_it c.args.self.now _ _ found c.args.path.now kept.0 c.in-Some.place c.index-found.result.now at c.index-found.ensures) c.in-Some.is

pub loop-found-preserved : goal.loop-found-preserved
loop-found-preserved c =
    let kept = c.loop-found.invariant in
    let at = subst (λ o. IsLastAt c.args.path.now c.args.self.now kept.0 o) c.in-Some.is kept.2 in
    let found = subst (λ gs. AreFound gs c.self.inside.index.newest.entries c.self.inside.index.older.items) c.self.view_is c.self.invariant.1 in (
      c.in-Some.place,
      c.if-place-count.false,
      before_it c.args.self.now _ _ found c.args.path.now kept.0 c.in-Some.place c.index-found.result.now at c.index-found.ensures,
    )
