-- What a query asks, path by path.
use Rattle.std.specs.{Prelude.{List, [], ◌∷◌, map, if◌then◌else◌}, List.flat_map}
use Rattle.svnpath.specs.Paths.{PathValue}
use Rattle.repo_api.specs.States.{TreeMap}
use Rattle.merge_queries.specs.{Beneath.descendants, declared.inheritance.Inheritance.TheVariants.Explicit, declared.query.MergeQuery.MergeQuery}
use Rattle.merge_queries.specs.declared.query.Question.{Question}

-- what is asked of an entry beneath a path: what it has itself
abbrev pub question_beneath : PathValue → Question
question_beneath q = record { path = q; inheritance = Explicit }

-- a path is asked first, and then what is beneath it
abbrev pub questions_for : TreeMap → MergeQuery → PathValue → List Question
questions_for m query p =
    record { path = p; inheritance = query.inheritance }
    ∷ (if query.includes_descendants then map question_beneath (descendants m p) else [])

-- the paths are asked one after another; one that is beneath another is asked again
abbrev pub questions : TreeMap → MergeQuery → List PathValue → List Question
questions m query paths = flat_map (questions_for m query) paths
