use Rattle.std.proofs.{Common.map, lemmas.Result.err_from_is_err_and}
use Rattle.repo_api.specs.Histories.{history_of}
use Rattle.file_histories.specs.Segments.{to_come}
use Rattle.wire_replies.specs.declared.reply.Reply.TheVariants as replies
use Rattle.wire_replies.proofs.Parts.{part_first, said_behind}
use Rattle.machine.specs.Histories.{ended, segment_told}
use Rattle.session_reads.proofs.segments.say_listed.Goals as goal

pub returns-in_err-say_each : goal.returns-in_err-say_each
returns-in_err-say_each g c =
    let p = err_from_is_err_and c.from_residual.result c.from_residual.ensures.1 in
    rw (p.1) (part_first _ (map segment_told (to_come (history_of (g.R.Repository.content c.args.view.now)) c.args.segments.now)) (ended replies.Success)
    c.in_err-say_each.ensures)

pub returns : goal.returns
returns g c =
    said_behind _ g.met.S.ReplySink.more c.say_end.result _ _ _
    (map segment_told (to_come (history_of (g.R.Repository.content c.args.view.now)) c.args.segments.now)) (ended replies.Success)
    c.in_ok-say_each.ensures c.say_end.ensures
