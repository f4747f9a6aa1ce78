use Rattle.std.proofs.Common.{sym}
use Rattle.session.proofs.Follows.{follows}
use Rattle.session.proofs.login.judge_answer.Goals as goal

pub returns-in-Ok : goal.returns-in-Ok
returns-in-Ok g c =
    let parts = c.into_parts-login.ensures in
    follows _ _ _ (λ at a step. (c.in-Ok.user, rw (sym parts.challenge) c.in-Ok.ensures, rw (sym parts.login) step)) _ _ _
    c.end_challenge.result _ c.end_challenge.ensures
