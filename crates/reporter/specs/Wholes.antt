-- A report as a whole: what the client has by it, and what stands at its goal.
use Rattle.std.specs.Prelude.{◌++◌, List, length, drop, None, if◌then◌else◌}
use Rattle.svnpath.specs.Paths.{is_at_or_under, PathValue}
use Rattle.repo_api.specs.{States.{RepoState, trees_in}, Trees.Tree}
use Rattle.reporter.specs.{Reported.{ReportedTree, reported}, declared.ask.DriveAsk.DriveAsk, declared.graft.Graft.Graft, declared.report.ReportRoot.ReportRoot}

-- a report that has come to its end
pub record WholeReport : Type 0 where
  pub ask : DriveAsk
  pub root : ReportRoot
  pub grafts : List Graft

-- what the client has, by the grafts of its report
abbrev pub reported_tree : RepoState → DriveAsk → List Graft → ReportedTree
reported_tree c ask grafts = reported (trees_in c.revisions) ask.target grafts

-- what the client has, by a report that has come to its end
abbrev pub client_tree : RepoState → WholeReport → ReportedTree
client_tree c report = reported_tree c report.ask report.grafts

-- the path of the repository beneath the goal of a path at or under the target
abbrev pub goal_path : DriveAsk → PathValue → PathValue
goal_path ask q = ask.goal ++ drop (length ask.target) q

-- what stands at and under the goal, at the target
abbrev pub target_tree : RepoState → DriveAsk → Tree
target_tree c ask q =
    if is_at_or_under q ask.target
    then trees_in c.revisions ask.revision (goal_path ask q)
    else None
