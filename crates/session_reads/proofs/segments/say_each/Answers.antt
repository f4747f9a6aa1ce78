use Rattle.std.proofs.{Common.{ap, ◌∙◌}, lemmas.Result.err_from_is_err_and}
use Rattle.repo_api.specs.Histories.{history_of}
use Rattle.file_histories.specs.Segments.{next_then, to_come}
use Rattle.machine.specs.Histories.{segment_told}
use Rattle.session_reads.proofs.Each.{one_told, one_failed}
use Rattle.session_reads.proofs.segments.say_each.Goals as goal

pub loop-segment-preserved : goal.loop-segment-preserved
loop-segment-preserved g c =
    let rest = to_come (history_of (g.R.Repository.content c.args.view.now)) c.next.new.self in
    one_told segment_told g.S.ReplySink.writes g.met.S.ReplySink.more _ _ _ _ _ rest c.in-Some.segment
    (c.in_ok-segment.ensures ∙ ap (λ o. next_then o rest) c.in-Some.is) c.loop-segment.invariant c.in_ok-say_segment.ensures

pub returns-in_err-say_segment : goal.returns-in_err-say_segment
returns-in_err-say_segment g c =
    let p = err_from_is_err_and c.from_residual-in_err-say_segment.result c.from_residual-in_err-say_segment.ensures.1 in
    let rest = to_come (history_of (g.R.Repository.content c.args.view.now)) c.next.new.self in
    rw (p.1) (one_failed segment_told g.S.ReplySink.writes g.met.S.ReplySink.more _ _ _ _ _ rest c.in-Some.segment
    (c.in_ok-segment.ensures ∙ ap (λ o. next_then o rest) c.in-Some.is) c.loop-segment.invariant c.in_err-say_segment.ensures)
