use Rattle.std.proofs.{Common.{[], ◌∷◌}, lemmas.Result.err_from_is_err_and}
use Rattle.wire_replies.proofs.Parts.{part_first, said_behind}
use Rattle.session_replies.specs.Telling.{told_before}
use Rattle.session_replies.proofs.preface.say_behind.Goals as goal

pub returns-in_err-say_preface : goal.returns-in_err-say_preface
returns-in_err-say_preface g c =
    let p = err_from_is_err_and c.from_residual.result c.from_residual.ensures.1 in
    rw (p.1) (part_first _ (told_before c.args.preface) (c.args.reply.now ∷ []) c.in_err-say_preface.ensures)

pub returns : goal.returns
returns g c =
    said_behind _ g.met.S.ReplySink.more c.say.result _ _ _ (told_before c.args.preface) (c.args.reply.now ∷ []) c.in_ok-say_preface.ensures c.say.ensures
