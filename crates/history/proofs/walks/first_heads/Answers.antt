use Rattle.std.proofs.Common.{arith}
use Rattle.repo_api.specs.Histories.{history_of}
use Rattle.history.specs.Logs.{oldest_asked, newest_asked}
use Rattle.history.proofs.Walking.{first_more}
use Rattle.history.proofs.walks.first_heads.Goals as goal

pub loop-path-preserved : goal.loop-path-preserved
loop-path-preserved g c =
    first_more (history_of (g.R.Repository.content c.args.repository.now)) c.args.ask.strict (oldest_asked c.args.ask) (newest_asked c.args.ask) c.args.paths.now
    c.loop-path.path-index c.path-item.result (omega arith) c.path-item.is c.loop-path.heads.items c.push.new.self.items c.in_ok-first_head.field-0
    c.in_ok-push.ensures.items c.loop-path.invariant c.in_ok-first_head.ensures
