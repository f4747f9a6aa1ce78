use Rattle.std.proofs.{Common.map, lemmas.Result.err_from_is_err_and}
use Rattle.repo_api.specs.Histories.{history_of}
use Rattle.history.specs.Walks.{to_come}
use Rattle.wire_replies.specs.declared.reply.Reply.TheVariants as replies
use Rattle.wire_replies.proofs.Parts.{part_first, said_behind}
use Rattle.machine.specs.Histories.{ended, revision_told}
use Rattle.session_reads.proofs.logs.say_listed.Goals as goal

pub returns-in_err-say_revisions : goal.returns-in_err-say_revisions
returns-in_err-say_revisions g c =
    let p = err_from_is_err_and c.from_residual.result c.from_residual.ensures.1 in
    let content = g.R.Repository.content c.args.view.now in
    rw (p.1) (part_first _ (map (revision_told content c.args.wants_changes) (to_come (history_of content) c.args.log.now)) (ended replies.Success)
    c.in_err-say_revisions.ensures)

pub returns : goal.returns
returns g c =
    let content = g.R.Repository.content c.args.view.now in
    said_behind _ g.met.S.ReplySink.more c.say_end.result _ _ _
    (map (revision_told content c.args.wants_changes) (to_come (history_of content) c.args.log.now)) (ended replies.Success)
    c.in_ok-say_revisions.ensures c.say_end.ensures
