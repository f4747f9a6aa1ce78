use Rattle.std.proofs.Common.{refl, sym, ◌∙◌}
use Rattle.session_replies.proofs.Steps.{only_says, stepped}
use Rattle.session.proofs.welcoming.log_client_in.Goals as goal

pub returns-in-None : goal.returns-in-None
returns-in-None g c =
    rw (sym c.into_parts-client.ensures.waiting ∙ c.in-None.is) (rw (sym c.into_parts-client.ensures.client)
    (stepped (only_says c.welcome.ensures.0 refl) _ c.welcome.result _ c.welcome.ensures.1))

pub returns-in-Some : goal.returns-in-Some
returns-in-Some g c =
    rw (sym c.into_parts-client.ensures.waiting ∙ c.in-Some.is) (rw (sym c.into_parts-client.ensures.client) c.resume_command.ensures)
