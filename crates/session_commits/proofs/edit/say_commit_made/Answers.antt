use Rattle.std.proofs.{Common.{[], ◌∷◌}, lemmas.Result.err_from_is_err_and}
use Rattle.wire_replies.specs.declared.reply.Reply.TheVariants.{Success, NoLogin}
use Rattle.wire_replies.proofs.Parts.{part_first, said_behind}
use Rattle.session_commits.proofs.edit.say_commit_made.Goals as goal

pub returns-in_err-say_both : goal.returns-in_err-say_both
returns-in_err-say_both g c =
    let p = err_from_is_err_and c.from_residual.result c.from_residual.ensures.1 in
    rw (p.1) (part_first _ (Success ∷ NoLogin ∷ []) (c.args.info.now ∷ []) c.in_err-say_both.ensures)

pub returns : goal.returns
returns g c =
    said_behind _ g.met.S.ReplySink.more c.say.result _ _ _ (Success ∷ NoLogin ∷ []) (c.args.info.now ∷ []) c.in_ok-say_both.ensures c.say.ensures
