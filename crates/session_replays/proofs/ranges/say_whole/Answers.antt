use Rattle.std.proofs.{Common.{[], ◌∷◌}, lemmas.Result.err_from_is_err_and}
use Rattle.machine.specs.Replays.{revision_replayed}
use Rattle.wire_replies.specs.declared.reply.Reply.TheVariants as replies
use Rattle.wire_replies.proofs.Parts.{part_first, said_behind}
use Rattle.session_replays.proofs.InTurn.{told_from}
use Rattle.session_replays.proofs.ranges.say_whole.Goals as goal

pub returns-in_err-say_each : goal.returns-in_err-say_each
returns-in_err-say_each g c =
    let p = err_from_is_err_and c.from_residual.result c.from_residual.ensures.1 in
    rw (p.1) (part_first _ (told_from (revision_replayed (g.R.Repository.content c.args.view.now) c.args.ask.now) c.args.range.start c.args.range.end)
    (replies.Success ∷ []) c.in_err-say_each.ensures)

pub returns : goal.returns
returns g c =
    said_behind _ g.met.S.ReplySink.more c.say_new.result _ _ _
    (told_from (revision_replayed (g.R.Repository.content c.args.view.now) c.args.ask.now) c.args.range.start c.args.range.end)
    (replies.Success ∷ []) c.in_ok-say_each.ensures c.say_new.ensures
