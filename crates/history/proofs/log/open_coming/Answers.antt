use Rattle.std.proofs.Common.{◌∙◌, ap, reverse}
use Rattle.repo_api.specs.Histories.{history_of}
use Rattle.history.proofs.Logging.{rising}
use Rattle.history.proofs.log.open_coming.Goals as goal

pub returns : goal.returns
returns g c =
    ap reverse (c.in_ok-all.ensures ∙ c.in_ok-walks.ensures)
    ∙ rising (history_of (g.R.Repository.content c.args.repository.now)) c.args.ask c.args.paths.now c.if-ask.false
