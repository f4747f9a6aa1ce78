use Rattle.std.proofs.Common.{ℕ, List, refl, ap, ◌∙◌}
use Rattle.machine.specs.Stages.{SessionState}
use Rattle.hub.specs.State.{hub_at, HubState, without}
use Rattle.hub.proofs.Everywhere.{AllOpen-without, HasTrees-without}
use Rattle.hub.proofs.hub.Hub.disconnect.Goals as goal

pub invariant_of-self : goal.invariant_of-self
invariant_of-self g c =
    let xs = c.self.inside.sessions.items in
    let old = hub_at c.self.inside.options (g.A.RepoAccess.point c.self.inside.access) xs c.self.inside.used in
    rw c.drop_session.ensures (AllOpen-without xs c.args.number c.self.invariant.0, HasTrees-without old c.args.number c.self.invariant.1)

pub returns : goal.returns
returns g c = λ env.
    let p = g.A.RepoAccess.point c.self.inside.access in
    let dropped = ap (λ (xs : List (ℕ × SessionState)). hub_at c.self.inside.options p xs c.self.inside.used) c.drop_session.ensures in
    (refl, refl, dropped ∙ ap (λ (h : HubState). record h { sessions = without h.sessions c.args.number }) c.self.view_is)
