use Rattle.std.proofs.Common.{rules, ◌≡◌, ◌+◌, ◌<◌, length, refl, subst}
use Rattle.hub.specs.{State.HubState, declared.hub.TheConstants.MAX_SESSIONS}
use Rattle.hub.proofs.hub.Hub.next_number.Goals as goal

pub returns : goal.returns
returns g c =
    subst (λ (h : HubState). (c.self.inside.used + 1 ≡ h.used + 1) × (length h.sessions < MAX_SESSIONS)) c.self.view_is
    (refl, search rules)
