use Rattle.std.proofs.Common.{ap, ◌∙◌, sym}
use Rattle.repo_api.specs.Dates.{is_dated}
use Rattle.history.specs.Dates.{greatest}
use Rattle.history.proofs.Dating.{greatest_before, greatest_since}
use Rattle.history.proofs.dates.dated_rev.Goals as goal

pub loop-revision-init : goal.loop-revision-init
loop-revision-init g c =
    let test = is_dated (g.R.Repository.content c.args.repository.now) c.args.date.now in
    let bound = c.dated_bound-revision in
    greatest_since test bound.result c.youngest.result bound.ensures.within bound.ensures.undated
    ∙ ap (greatest test) c.youngest.ensures

pub loop-revision-preserved : goal.loop-revision-preserved
loop-revision-preserved g c =
    let test = is_dated (g.R.Repository.content c.args.repository.now) c.args.date.now in
    let bound = c.dated_bound-revision-in-loop-revision in
    greatest_before test bound.result c.loop-revision.revision c.loop-revision-test.true
    bound.ensures.within bound.ensures.undated (sym c.is_dated.ensures ∙ c.if-is_dated.false)
    ∙ c.loop-revision.invariant
