use Rattle.std.proofs.{Common.{[], ◌∷◌}, lemmas.Result.err_from_is_err_and}
use Rattle.replays.specs.Edits.{edit_replies}
use Rattle.wire_replies.specs.declared.reply.Reply.TheVariants as replies
use Rattle.wire_replies.proofs.Parts.{part_first, said_behind}
use Rattle.session_replays.proofs.replaying.say_whole.Goals as goal

pub returns-in_err-say_edit : goal.returns-in_err-say_edit
returns-in_err-say_edit g c =
    let p = err_from_is_err_and c.from_residual.result c.from_residual.ensures.1 in
    rw (p.1) (part_first _ (edit_replies (g.R.Repository.content c.args.view.now) c.args.ask.now c.args.revision) (replies.Success ∷ []) c.in_err-say_edit.ensures)

pub returns : goal.returns
returns g c =
    said_behind _ g.met.S.ReplySink.more c.say_new.result _ _ _ (edit_replies (g.R.Repository.content c.args.view.now) c.args.ask.now c.args.revision)
    (replies.Success ∷ []) c.in_ok-say_edit.ensures c.say_new.ensures
