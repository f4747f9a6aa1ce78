use Rattle.std.proofs.lemmas.Result.{err_from_is_err_and}
use Rattle.items.specs.Print.{row_printed}
use Rattle.wire_replies.specs.{Parts.{log_end, log_head}, Replies.change_trees}
use Rattle.wire_replies.proofs.{Frames.{facts_of, log_printed}, Row.{body_unwritten, head_unwritten, tail_written}}
use Rattle.session_reads.proofs.Told.{entry_of}
use Rattle.session_reads.proofs.log_entries.say_revision.Goals as goal

pub returns-in_err-say_log_head : goal.returns-in_err-say_log_head
returns-in_err-say_log_head g c =
    let p = err_from_is_err_and c.from_residual.result c.from_residual.ensures.1 in
    let entry = entry_of (g.R.Repository.content c.args.view.now) c.args.wants_changes c.args.revision in
    rw (p.1) (head_unwritten g.S.ReplySink.writes g.met.S.ReplySink.more _ log_head (row_printed (change_trees entry.changes)) (log_end (facts_of entry))
    (log_printed entry) _ _ c.in_err-say_log_head.ensures)

pub returns-in_err-say_changes : goal.returns-in_err-say_changes
returns-in_err-say_changes g c =
    let p = err_from_is_err_and c.from_residual-in_err-say_changes.result c.from_residual-in_err-say_changes.ensures.1 in
    let entry = entry_of (g.R.Repository.content c.args.view.now) c.args.wants_changes c.args.revision in
    rw (p.1) (body_unwritten g.S.ReplySink.writes g.met.S.ReplySink.more _ log_head (row_printed (change_trees entry.changes)) (log_end (facts_of entry))
    (log_printed entry) _ _ _ c.in_ok-say_log_head.ensures c.in_err-say_changes.ensures)

pub returns : goal.returns
returns g c =
    let entry = entry_of (g.R.Repository.content c.args.view.now) c.args.wants_changes c.args.revision in
    tail_written g.S.ReplySink.writes g.met.S.ReplySink.more _ log_head (row_printed (change_trees entry.changes)) (log_end (facts_of entry))
    (log_printed entry) c.say_log_end.result _ _ _ _ c.in_ok-say_log_head.ensures c.in_ok-say_changes.ensures (c.say_log_end.ensures _ c.facts_told.ensures)
