use Rattle.std.proofs.Common.{arith, sym, ◌∙◌}
use Rattle.repo_api.specs.Histories.{history_of}
use Rattle.file_histories.proofs.Searching.{found_none, found_now, found_on}
use Rattle.file_histories.proofs.deleted.first_taking_away.Goals as goal

pub loop-revision-preserved : goal.loop-revision-preserved
loop-revision-preserved g c =
    c.loop-revision.invariant
    ∙ found_on (history_of (g.R.Repository.content c.args.repository.now)) c.args.path.now c.loop-revision.revision c.args.high c.loop-revision-test.true
    (rw c.changes.ensures at (sym c.is_any_taking_away.ensures ∙ c.if-is_any_taking_away.false))

pub returns-then-is_any_taking_away : goal.returns-then-is_any_taking_away
returns-then-is_any_taking_away g c =
    sym (c.loop-revision.invariant
    ∙ found_now (history_of (g.R.Repository.content c.args.repository.now)) c.args.path.now c.loop-revision.revision c.args.high c.loop-revision-test.true
    (rw c.changes.ensures at (sym c.is_any_taking_away.ensures ∙ c.if-is_any_taking_away.true)))

pub returns : goal.returns
returns g c =
    sym (c.loop-revision.invariant
    ∙ found_none (history_of (g.R.Repository.content c.args.repository.now)) c.args.path.now c.loop-revision.revision c.args.high (omega (arith, c.loop-revision-test.false)))
