use Rattle.std.proofs.{Common.{of_calls, rules}, lemmas.Fn.always_returns_same}
use Rattle.std.specs.Ordering.{is_lt}
use Rattle.svnpath.specs.Paths.{path_cmp}
use Rattle.repo_api.specs.Histories.{Changed}
use Rattle.filed_trees.proofs.InOrder.{rising}
use Rattle.filed_trees.proofs.changes.are_rising.Goals as goal

pub returns : goal.returns
returns c =
    rising c.args.changes.now c.is_sorted_by.result
    (c.is_sorted_by.ensures.cases (λ (x : Changed) (y : Changed). is_lt (path_cmp x.0 y.0)) (always_returns_same _ _ _ (λ a r f called. search (rules, of_calls))))
