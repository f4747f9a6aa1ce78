use Rattle.std.proofs.{Common.{ap, ◌∙◌}, lemmas.Result.err_from_is_err_and}
use Rattle.repo_api.specs.Histories.{history_of}
use Rattle.history.specs.Walks.{next_then, to_come}
use Rattle.machine.specs.Histories.{revision_told}
use Rattle.session_reads.proofs.Each.{one_told, one_failed}
use Rattle.session_reads.proofs.logs.say_revisions.Goals as goal

pub loop-revision-preserved : goal.loop-revision-preserved
loop-revision-preserved g c =
    let content = g.R.Repository.content c.args.view.now in
    let rest = to_come (history_of content) c.next.new.self in
    one_told (revision_told content c.args.wants_changes) g.S.ReplySink.writes g.met.S.ReplySink.more _ _ _ _ _ rest c.in-Some.revision
    (c.in_ok-revision.ensures.ok ∙ ap (λ o. next_then o rest) c.in-Some.is)
    c.loop-revision.invariant c.in_ok-say_revision.ensures

pub returns-in_err-say_revision : goal.returns-in_err-say_revision
returns-in_err-say_revision g c =
    let p = err_from_is_err_and c.from_residual-in_err-say_revision.result c.from_residual-in_err-say_revision.ensures.1 in
    let content = g.R.Repository.content c.args.view.now in
    let rest = to_come (history_of content) c.next.new.self in
    rw (p.1) (one_failed (revision_told content c.args.wants_changes) g.S.ReplySink.writes g.met.S.ReplySink.more _ _ _ _ _ rest c.in-Some.revision
    (c.in_ok-revision.ensures.ok ∙ ap (λ o. next_then o rest) c.in-Some.is)
    c.loop-revision.invariant c.in_err-say_revision.ensures)
