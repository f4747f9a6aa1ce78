use Rattle.repo_api.specs.Histories.{history_of}
use Rattle.history.proofs.Walking.{going_within, going_on}
use Rattle.history.proofs.walks.Walks.heads_after.Goals as goal

pub head_after-requires : goal.head_after-requires
head_after-requires g c =
    going_within (history_of (g.R.Repository.content c.args.repository.now)) c.args.self.now.strict c.args.self.now.low c.args.newest c.args.heads.items
    c.loop-head.left.items c.pop.new.self.items c.loop-head.next.items c.in-Some.head c.in-Some.ensures.items c.loop-head.invariant

pub loop-head-preserved : goal.loop-head-preserved
loop-head-preserved g c =
    going_on (history_of (g.R.Repository.content c.args.repository.now)) c.args.self.now.strict c.args.self.now.low c.args.newest c.args.heads.items
    c.loop-head.left.items c.pop.new.self.items c.loop-head.next.items c.push.new.self.items c.in-Some.head c.in_ok-head_after.field-0 c.in-Some.ensures.items
    c.in_ok-push.ensures.items c.loop-head.invariant c.in_ok-head_after.ensures
