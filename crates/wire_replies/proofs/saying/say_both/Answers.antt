use Rattle.std.proofs.{Common.{[], ◌∷◌}, lemmas.Result.err_from_is_err_and}
use Rattle.wire_replies.proofs.Parts.{part_first, said_behind}
use Rattle.wire_replies.proofs.saying.say_both.Goals as goal

pub returns-in_err-say : goal.returns-in_err-say
returns-in_err-say g c =
    let p = err_from_is_err_and c.from_residual.result c.from_residual.ensures.1 in
    rw (p.1) (part_first _ (c.args.first.now ∷ []) (c.args.second.now ∷ []) c.in_err-say.ensures)

pub returns : goal.returns
returns g c =
    said_behind _ g.met.S.ReplySink.more c.say-2.result _ _ _ (c.args.first.now ∷ []) (c.args.second.now ∷ []) c.in_ok-say.ensures c.say-2.ensures
