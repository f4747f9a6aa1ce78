-- The walks of the paths so far.
use Rattle.std.proofs.Common.{map, take}
use Rattle.repo_api.specs.Histories.{history_of}
use Rattle.history.specs.{Logs.{oldest_asked, newest_asked, place_at}, Walks.AreFirst}
use Rattle.history.proofs.walks.first_heads.Given as goal

abbrev pub invariant-loop-path : goal.invariant-loop-path
invariant-loop-path g l =
    AreFirst (history_of (g.R.Repository.content l.repository)) l.ask.strict (oldest_asked l.ask) (newest_asked l.ask)
    (map (place_at (newest_asked l.ask)) (take l.path-index l.paths)) l.heads.items
