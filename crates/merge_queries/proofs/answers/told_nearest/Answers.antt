use Rattle.std.proofs.Common.{sym, ◌∙◌}
use Rattle.repo_api.specs.States.{tree_at}
use Rattle.merge_queries.proofs.Upwards.{nearest_is_short}
use Rattle.merge_queries.proofs.answers.told_nearest.Goals as goal

pub told_from-requires : goal.told_from-requires
told_from-requires g c =
    nearest_is_short (tree_at (g.R.Repository.content c.args.repository.now) c.args.revision) c.args.inheritance c.args.path.now c.in-Some.above
    (sym c.in-Some.is ∙ c.in_ok-above.ensures)
