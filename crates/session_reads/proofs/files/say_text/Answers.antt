use Rattle.std.proofs.{Common.{[], ◌∷◌}, lemmas.Result.err_from_is_err_and}
use Rattle.wire_replies.specs.Replies.{contents}
use Rattle.wire_replies.specs.declared.reply.Reply.TheVariants as replies
use Rattle.wire_replies.proofs.Parts.{part_first, said_behind}
use Rattle.session_reads.proofs.files.say_text.Goals as goal

pub returns-in_err-say_contents : goal.returns-in_err-say_contents
returns-in_err-say_contents g c =
    let p = err_from_is_err_and c.from_residual.result c.from_residual.ensures.1 in
    rw (p.1) (part_first _ (contents c.args.text.now) (replies.Success ∷ []) c.in_err-say_contents.ensures)

pub returns : goal.returns
returns g c =
    said_behind _ g.met.S.ReplySink.more c.say.result _ _ _ (contents c.args.text.now) (replies.Success ∷ []) c.in_ok-say_contents.ensures c.say.ensures
