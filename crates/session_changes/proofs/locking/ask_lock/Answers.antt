use Rattle.std.proofs.Common.{[], ◌∷◌, refl}
use Rattle.wire_replies.specs.declared.reply.Reply.TheVariants as replies
use Rattle.repo_api.specs.{Accepted.Accepted.Locks, Locking.{lock_of, lock_refusal}}
use Rattle.machine.specs.Commands.{env_without_token, lock_answer}
use Rattle.session_replies.specs.Telling.{told_before}
use Rattle.session_replies.proofs.{Steps.stepped, Changes.{made, not_made}}
use Rattle.session_changes.proofs.locking.ask_lock.Goals as goal

pub returns-in-Ok-lock : goal.returns-in-Ok-lock
returns-in-Ok-lock g c =
    let ask = c.args.ask in
    let env = c.args.turn.now.env in
    let said = rw c.in-Ok.ensures at c.tell_lock.ensures in
    stepped (made (λ x. lock_refusal x ask) (Locks ask) env c.args.client (told_before c.args.preface) (lock_answer env c.args.client ask) _ _ _
    (env_without_token env) (replies.Lock ask.path (lock_of ask) ∷ []) _ refl c.in-Ok-lock.ensures)
    _ c.tell_lock.result _ said

pub returns-in-Err-lock : goal.returns-in-Err-lock
returns-in-Err-lock g c =
    let ask = c.args.ask in
    let env = c.args.turn.now.env in
    let said = rw c.in-Ok.ensures at c.tell_unmade.ensures in
    not_made (λ x. lock_refusal x ask) (Locks ask) env c.args.client (told_before c.args.preface) (lock_answer env c.args.client ask) _ _ _
    _ c.tell_unmade.result _ _ refl refl c.in-Err-lock.ensures said
