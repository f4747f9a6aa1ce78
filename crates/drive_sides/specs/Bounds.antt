-- How long the paths of a target tree are.
use Rattle.std.specs.{Prelude.{ℕ, ◌+◌, List, [], ◌∷◌, length, map}, FinMap.keys}
use Rattle.svnpath.specs.Paths.{PathValue}
use Rattle.repo_api.specs.States.{RepoState, tree_at}
use Rattle.reporter.specs.{Targets.WholeReport, declared.graft.Graft.Graft}

-- how many names all these paths have
abbrev pub names_altogether : List PathValue → ℕ
names_altogether [] = 0
names_altogether (p ∷ paths) = length p + names_altogether paths

-- more names than any path has that a report is of, or than the target has
abbrev pub front_bound : WholeReport → ℕ
front_bound report =
    length report.ask.target + names_altogether (map (λ (g : Graft). g.path) report.grafts)

-- more names than any path has in the target tree
abbrev pub path_bound : RepoState → WholeReport → ℕ
path_bound c report =
    1 + (front_bound report + names_altogether (keys (tree_at c report.ask.revision)))
