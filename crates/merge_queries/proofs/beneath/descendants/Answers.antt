use Rattle.repo_api.specs.States.{tree_at}
use Rattle.merge_queries.proofs.Noting.{noted_in_order}
use Rattle.merge_queries.proofs.beneath.descendants.Goals as goal

pub returns : goal.returns
returns g c =
    noted_in_order (tree_at (g.R.Repository.content c.args.repository.now) c.args.revision) c.args.path.now _ _ c.new-found.ensures.empty
    (c.in_ok-note_beneath.ensures.ordered c.new-found.ensures.ordered) c.in_ok-note_beneath.ensures.noted
