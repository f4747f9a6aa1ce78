use Rattle.std.proofs.Common.{[], ◌∷◌, refl}
use Rattle.wire_replies.specs.declared.reply.Reply.TheVariants as replies
use Rattle.repo_api.specs.{Accepted.Accepted.Unlocks, Locking.unlock_refusal}
use Rattle.machine.specs.Answers.{change_answer}
use Rattle.session_replies.specs.Telling.{told_before}
use Rattle.session_replies.proofs.{Steps.stepped, Changes.{made, not_made}}
use Rattle.session_changes.proofs.unlocking.ask_unlock.Goals as goal

pub returns-in-Ok : goal.returns-in-Ok
returns-in-Ok g c =
    let ask = c.args.ask in
    let env = c.args.turn.now.env in
    let client = c.args.client in
    stepped (made (λ x. unlock_refusal x ask) (Unlocks ask) env client (told_before c.args.preface) (change_answer env client (Unlocks ask) (replies.Success ∷ [])) _ _ _
    env (replies.Success ∷ []) _ refl c.in-Ok.ensures)
    _ c.tell.result _ (c.tell.ensures replies.Success refl)

pub returns-in-Err : goal.returns-in-Err
returns-in-Err g c =
    let ask = c.args.ask in
    let env = c.args.turn.now.env in
    let client = c.args.client in
    not_made (λ x. unlock_refusal x ask) (Unlocks ask) env client (told_before c.args.preface) (change_answer env client (Unlocks ask) (replies.Success ∷ [])) _ _ _
    _ c.tell_unmade.result _ _ refl refl c.in-Err.ensures c.tell_unmade.ensures
