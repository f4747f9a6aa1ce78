use Rattle.std.proofs.Common.{subst}
use Rattle.repo_api.specs.States.{tree_at}
use Rattle.merge_queries.specs.Queries.{sources_at, IsToldOf}
use Rattle.merge_queries.proofs.Answering.{told_from}
use Rattle.merge_queries.proofs.answers.told_from.Goals as goal

pub returns-in_ok-handed_down-in-Some : goal.returns-in_ok-handed_down-in-Some
returns-in_ok-handed_down-in-Some g c =
    let m = tree_at (g.R.Repository.content c.args.repository.now) c.args.revision in
    told_from m c.args.above.now c.args.path.now _ _ (subst (IsToldOf (sources_at m c.args.above.now)) c.in-Some.is c.in_ok-found.ensures)
    (λ sources form. c.in_ok-handed_down-in-Some.ensures sources form)
