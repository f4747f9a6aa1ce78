use Rattle.std.proofs.Common.{◌+◌, ◌-◌, ◌*◌, flat_map}
use Rattle.replays.specs.Edits.{below}
use Rattle.replays.proofs.{Quiet.entry_at, Written.Going}
use Rattle.replays.proofs.walking.+walking.Given as goal

abbrev pub decreases-say_below : goal.decreases-say_below
decreases-say_below g l = 7 * l.here.now.levels + 1

abbrev pub decreases-say_named : goal.decreases-say_named
decreases-say_named g l = 7 * l.here.now.levels

abbrev pub decreases-say_entry : goal.decreases-say_entry
decreases-say_entry g l = 7 * l.spot.now.levels + 6

abbrev pub decreases-say_standing : goal.decreases-say_standing
decreases-say_standing g l = 7 * l.spot.now.levels + 5

abbrev pub decreases-say_added : goal.decreases-say_added
decreases-say_added g l = 7 * l.spot.now.levels + 4

abbrev pub decreases-say_kept : goal.decreases-say_kept
decreases-say_kept g l = 7 * l.spot.now.levels + 4

abbrev pub decreases-say_inside : goal.decreases-say_inside
decreases-say_inside g l = 7 * l.spot.now.levels + 3

abbrev pub decreases-say_entered : goal.decreases-say_entered
decreases-say_entered g l = 7 * l.spot.now.levels + 2

-- what is said so far, and what is left of all that is said beneath the directory
abbrev pub invariant-say_below-loop-name : goal.invariant-say_below-loop-name
invariant-say_below-loop-name g l =
    Going g.S.ReplySink.writes l.fn.out l.out
    (below l.here.levels (g.R.Repository.content l.replay.view.now) l.replay.ask.now l.replay.revision l.here.place l.here.path)
    (flat_map (entry_at (l.here.levels - 1) (g.R.Repository.content l.replay.view.now) l.replay.ask.now l.replay.revision l.here.place l.here.path) l.name-iterator)
