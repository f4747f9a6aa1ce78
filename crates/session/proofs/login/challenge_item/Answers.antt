use Rattle.std.proofs.Common.{ℕ, List, Some, refl, sym, ap, ◌∙◌}
use Rattle.session_replies.proofs.Steps.{only_says, stepped}
use Rattle.session.proofs.login.challenge_item.Goals as goal

pub returns-in-Some : goal.returns-in-Some
returns-in-Some g c =
    rw (sym c.in-Some.ensures ∙ ap (λ (text : List ℕ). Some text) (sym c.as_slice.ensures)) c.judge_answer.ensures

pub returns-in-None : goal.returns-in-None
returns-in-None g c =
    rw (sym c.in-None.ensures) (stepped (only_says (g.met.A.RepoAccess.stays _) refl) _ c.end_malformed.result _ c.end_malformed.ensures)
