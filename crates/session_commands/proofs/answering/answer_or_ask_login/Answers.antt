use Rattle.std.proofs.Common.{refl, sym, ◌∙◌}
use Rattle.session_replies.proofs.Steps.{stepped, only_says}
use Rattle.session_commands.proofs.answering.answer_or_ask_login.Goals as goal

pub returns-then-wants_user : goal.returns-then-wants_user
returns-then-wants_user g c =
    rw (sym c.wants_user.ensures ∙ c.if-wants_user.true)
    (stepped (only_says (g.met.A.RepoAccess.stays _) refl) _ c.ask_for_login.result _ c.ask_for_login.ensures)

pub returns-else-wants_user : goal.returns-else-wants_user
returns-else-wants_user g c = rw (sym c.wants_user.ensures ∙ c.if-wants_user.false) c.answer_now.ensures
