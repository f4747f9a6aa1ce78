use Rattle.std.proofs.Common.{subst, ◌∙◌}
use Rattle.reporter.specs.Finding.{AreFound}
use Rattle.reporter.proofs.Finding.{beneath_is}
use Rattle.reporter.proofs.grafts.Grafts.has_beneath.Goals as goal

pub returns : goal.returns
returns c =
    let index = c.self.inside.index in
    let found = subst (λ gs. AreFound gs index.newest.entries index.older.items) c.self.view_is c.self.invariant.1 in
    c.has_beneath.ensures ∙ beneath_is c.args.self.now _ _ found c.args.path.now
