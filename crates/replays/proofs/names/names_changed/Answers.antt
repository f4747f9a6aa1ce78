use Rattle.replays.proofs.Found.{quiet_else}
use Rattle.replays.proofs.names.names_changed.Goals as goal

pub returns : goal.returns
returns g c = λ x.
    quiet_else c.put_differing.new.names.keys c.put_run_names.new.names.keys (g.R.Repository.content c.args.replay.now.view.now) c.args.replay.now.revision
    c.args.here.now.path c.args.base.now c.args.here.now.run.now x (c.in_ok-put_run_names.ensures.keeps x) c.in_ok-put_run_names.ensures.holds (c.in_ok-put_differing.ensures.differ x)
