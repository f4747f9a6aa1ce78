use Rattle.std.proofs.Common.{◌≡◌, ◌+◌, ◌-◌, ◌*◌, not, flat_map}
use Rattle.replays.specs.{Commands.is_empty, Edits.below}
use Rattle.replays.proofs.Quiet.{entry_at}
use Rattle.replays.proofs.searching.+searching.Given as goal

abbrev pub decreases-has_news_below : goal.decreases-has_news_below
decreases-has_news_below g l = 4 * l.here.now.levels + 1

abbrev pub decreases-has_news_in : goal.decreases-has_news_in
decreases-has_news_in g l = 4 * l.here.now.levels

abbrev pub decreases-has_news : goal.decreases-has_news
decreases-has_news g l = 4 * l.spot.now.levels + 3

abbrev pub decreases-is_to_be_opened : goal.decreases-is_to_be_opened
decreases-is_to_be_opened g l = 4 * l.spot.now.levels + 2

-- something is said beneath the directory where something is said of the names that are left
abbrev pub invariant-has_news_below-loop-name : goal.invariant-has_news_below-loop-name
invariant-has_news_below-loop-name g l =
    not (is_empty (below l.here.levels (g.R.Repository.content l.replay.view.now) l.replay.ask.now l.replay.revision l.here.place l.here.path))
    ≡ not (is_empty (flat_map (entry_at (l.here.levels - 1) (g.R.Repository.content l.replay.view.now) l.replay.ask.now l.replay.revision l.here.place l.here.path) l.name-iterator))
