use Rattle.repo_api.specs.Histories.{history_of}
use Rattle.replays.proofs.Beneath.{root_run}
use Rattle.replays.proofs.edits.root_spot.Goals as goal

pub returns-clause-run : goal.returns-clause-run
returns-clause-run g c =
    root_run c.changes.result.now (history_of (g.R.Repository.content c.args.replay.now.view.now) c.args.replay.now.revision) c.root.result c.changes.ensures c.root.ensures
