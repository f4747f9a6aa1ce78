-- The questions so far, and those of the paths that are left, are all.
use Rattle.std.proofs.Common.{◌≡◌, ◌++◌, map}
use Rattle.merge_queries.specs.Questions.{question_beneath}
use Rattle.merge_queries.proofs.query.ask_own.Given as goal

abbrev pub invariant-loop-path : goal.invariant-loop-path
invariant-loop-path l =
    l.asked.items ++ map question_beneath l.path-iterator ≡ l.fn.asked.items ++ map question_beneath l.fn.found.keys
