-- What is served from how something stands.
use Rattle.std.proofs.Common.{◌≡◌, subst}
use Rattle.machine.specs.{declared.env.Env.Env, Settings.Settings}
use Rattle.access.specs.Points.{AccessRules, Point}
use Rattle.session_pool.specs.Serving.{ServesInTurn, stand}

-- callers are served from how it stands to how it stands, by whichever names these are given
pub from_same : {E : Type 0} → {rules : AccessRules} → {gives : E → Env → E → Type 0}
    → {settings options : Settings} → {from seen to : Point} → {given handed left : E}
    → settings ≡ options → from ≡ seen → given ≡ handed
    → ServesInTurn rules gives (stand settings from given) (stand settings to left)
    → ServesInTurn rules gives (stand options seen handed) (stand options to left)
from_same {E} {rules} {gives} {settings} {options} {from} {seen} {to} {given} {handed} {left} same here this h =
    subst (λ (x : Settings × Point × E). ServesInTurn rules gives (stand x.0 x.1 x.2) (stand x.0 to left))
    (λ i. (same i, here i, this i)) h
