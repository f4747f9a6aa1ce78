use Rattle.std.proofs.Common.{◌≡◌, refl, subst}
use Rattle.hub.specs.State.{hub_at, HubState}
use Rattle.hub.proofs.hub.Hub.into_parts.Goals as goal

pub returns : goal.returns
returns g c =
    subst (λ (h : HubState). h ≡ hub_at c.self.inside.options (g.A.RepoAccess.point c.self.inside.access) h.sessions h.used) c.self.view_is refl
