use Rattle.std.proofs.Common.{arith, sym, ap, ◌∙◌}
use Rattle.repo_api.specs.Histories.{history_of}
use Rattle.traces.specs.Traces.{is_copied}
use Rattle.file_histories.specs.Segments.{cut}
use Rattle.file_histories.proofs.{Cutting.ends_low, Stretches.{begins_copied, begins_made, goes_on}}
use Rattle.file_histories.proofs.segments.stretch_back.Goals as goal

pub loop-at-preserved : goal.loop-at-preserved
loop-at-preserved g c =
    let h = history_of (g.R.Repository.content c.args.repository.now) in record {
      within = omega (arith, c.loop-at.invariant.within, c.settled_place-at-in-loop-at.ensures.within, c.in_ok-before.ensures.below c.in-Some.before c.in-Some.is);
      same = λ last.
          c.loop-at.invariant.same last
          ∙ goes_on h last c.loop-at.at c.in-Some.before (rw c.in-Some.is at c.in_ok-before.ensures.trace) (ap (λ cs. is_copied cs c.loop-at.at.path) (sym c.changes.ensures) ∙ sym c.is_copied-is_copy.ensures ∙ c.if-is_copy.false)
          ∙ c.settled_place-at-in-loop-at.ensures.same last;
    }

pub returns-in_default-clause-same : goal.returns-in_default-clause-same
returns-in_default-clause-same g c last high =
    let h = history_of (g.R.Repository.content c.args.repository.now) in
    ap (cut c.args.low high) (c.loop-at.invariant.same last ∙ begins_made h last c.loop-at.at (rw c.in_default.is at c.in_ok-before.ensures.trace))

pub returns-then-is_copy-clause-same : goal.returns-then-is_copy-clause-same
returns-then-is_copy-clause-same g c last high =
    let h = history_of (g.R.Repository.content c.args.repository.now) in
    ap (cut c.args.low high)
    (c.loop-at.invariant.same last
    ∙ begins_copied h last c.loop-at.at c.in-Some.before (rw c.in-Some.is at c.in_ok-before.ensures.trace) (ap (λ cs. is_copied cs c.loop-at.at.path) (sym c.changes.ensures) ∙ sym c.is_copied-is_copy.ensures ∙ c.if-is_copy.true))

pub returns-clause-same : goal.returns-clause-same
returns-clause-same g c last high =
    let h = history_of (g.R.Repository.content c.args.repository.now) in
    ap (cut c.args.low high) (c.loop-at.invariant.same last) ∙ ends_low h c.args.low high last c.loop-at.at (omega (arith, c.loop-at-test.false))
