use Rattle.std.proofs.Common.{arith}
use Rattle.repo_api.specs.Histories.{history_of}
use Rattle.history.proofs.gathering.paths_on.Goals as goal

pub loop-left-init : goal.loop-left-init
loop-left-init g c = record {
  inside = omega arith;
  meeting = c.none-meeting.ensures (history_of (g.R.Repository.content c.args.repository.now)) c.args.place.now;
}

pub returns : goal.returns
returns g c = c.paths.ensures (history_of (g.R.Repository.content c.args.repository.now)) c.args.place.now c.in_ok-go_down.ensures
