-- What the session holds is what its reader holds.
use Rattle.std.proofs.Common.{ℕ, List, ap, subst}
use Rattle.items.specs.Counting.{CountsItems}
use Rattle.machine.specs.Stages.{SessionState}
use Rattle.session.proofs.session.Session.unread_items.Goals as goal

pub returns : goal.returns
returns g c =
    let rest = ap (λ (s : SessionState). s.rest) c.self.view_is in
    subst (λ (bytes : List ℕ). CountsItems c.unread_items.result bytes) rest c.unread_items.ensures
