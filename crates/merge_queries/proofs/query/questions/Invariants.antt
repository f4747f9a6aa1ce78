-- What the paths so far ask.
use Rattle.std.proofs.Common.{◌≡◌, take}
use Rattle.std.specs.List.{flat_map}
use Rattle.repo_api.specs.States.{tree_at}
use Rattle.merge_queries.specs.Questions.{questions_for}
use Rattle.merge_queries.proofs.query.questions.Given as goal

abbrev pub invariant-loop-path : goal.invariant-loop-path
invariant-loop-path g l =
    l.asked.items ≡ flat_map (questions_for (tree_at (g.R.Repository.content l.repository) l.query.revision) l.query) (take l.path-index l.paths)
