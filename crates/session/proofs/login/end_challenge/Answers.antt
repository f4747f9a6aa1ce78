use Rattle.std.proofs.Common.{refl}
use Rattle.session_replies.proofs.Steps.{only_says, stepped}
use Rattle.session.proofs.login.end_challenge.Goals as goal

pub returns-in-Some : goal.returns-in-Some
returns-in-Some g c = rw c.in-Some.is (rw c.login_of.ensures at c.log_client_in.ensures)

pub returns-in-None : goal.returns-in-None
returns-in-None g c =
    rw c.in-None.is (stepped (only_says (g.met.A.RepoAccess.stays _) refl) _ c.await_choice.result _ c.await_choice.ensures)
