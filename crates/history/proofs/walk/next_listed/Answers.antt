use Rattle.std.proofs.Common.{◌∙◌, sym, ap}
use Rattle.repo_api.specs.Histories.{history_of}
use Rattle.traces.specs.Traces.{traced}
use Rattle.history.specs.Logs.{listed}
use Rattle.history.proofs.Steps.{nothing_listed_below}
use Rattle.history.proofs.walk.next_listed.Goals as goal

pub returns-then-revision-low : goal.returns-then-revision-low
returns-then-revision-low g c =
    sym c.loop-place.invariant
    ∙ ap (λ o. listed (history_of (g.R.Repository.content c.args.repository.now)) c.args.low (traced (history_of (g.R.Repository.content c.args.repository.now)) c.args.strict o))
    c.in-Some.is
    ∙ c.place_passed_to-at.ensures.listed c.args.strict c.args.low
    ∙ nothing_listed_below (history_of (g.R.Repository.content c.args.repository.now)) c.args.strict c.args.low c.place_passed_to-at.result c.if-revision-low.true
