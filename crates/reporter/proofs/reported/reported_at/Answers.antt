use Rattle.std.proofs.{Common.rules, lemmas.Result.IfOk-weaker}
use Rattle.repo_api.specs.States.{trees_in}
use Rattle.reporter.specs.Reported.{reported}
use Rattle.reporter.proofs.Parts.{none_placed, placed_by}
use Rattle.reporter.proofs.reported.reported_at.Goals as goal

pub returns-in-None : goal.returns-in-None
returns-in-None g c =
    none_placed (g.R.Repository.content c.args.view.now) (reported (trees_in (g.R.Repository.content c.args.view.now).revisions) c.args.top.now c.args.grafts.now) c.args.grafts.now c.args.path.now (search rules)

pub returns-in-Some : goal.returns-in-Some
returns-in-Some g c =
    IfOk-weaker c.shown_at.result _ _ (λ found placed.
    placed_by (g.R.Repository.content c.args.view.now) c.args.top.now c.args.grafts.now c.args.grafts.now c.args.path.now c.in-Some.graft.now found (rw c.in-Some.is at c.in_ok-graft_at.ensures) placed)
    c.shown_at.ensures
