use Rattle.std.proofs.{Common.{rules, arith, ◌≡◌, ◌≤◌, ◌<◌, List, sym, subst}, lemmas.Result.err_from_is_err_and}
use Rattle.machine.specs.Replays.{revision_replayed}
use Rattle.wire_replies.specs.{Replies.print, declared.reply.Reply.Reply}
use Rattle.session_replays.proofs.InTurn.{none_told, turn_ended, turn_failed, turn_on}
use Rattle.session_replays.proofs.ranges.say_each.Goals as goal

pub returns-then-range : goal.returns-then-range
returns-then-range g c =
    let behind : c.args.range.end < c.args.range.start = search (rules, arith) in
    subst (λ (rs : List Reply). g.S.ReplySink.writes c.args.out.now c.args.out.now (print rs))
    (sym (none_told (revision_replayed (g.R.Repository.content c.args.view.now) c.args.ask.now) c.args.range.start c.args.range.end behind))
    (g.met.S.ReplySink.nothing c.args.out.now)

pub loop-revision-preserved : goal.loop-revision-preserved
loop-revision-preserved g c =
    let within : c.loop-revision.revision ≤ c.args.range.end = search (rules, arith) in
    turn_on (revision_replayed (g.R.Repository.content c.args.view.now) c.args.ask.now) g.S.ReplySink.writes g.met.S.ReplySink.more _ _ _
    c.args.range.start c.loop-revision.revision c.args.range.end within c.loop-revision.invariant c.in_ok-say_revision.ensures

pub returns-in_err-say_revision : goal.returns-in_err-say_revision
returns-in_err-say_revision g c =
    let p = err_from_is_err_and c.from_residual.result c.from_residual.ensures.1 in
    let within : c.loop-revision.revision ≤ c.args.range.end = search (rules, arith) in
    rw (p.1) (turn_failed (revision_replayed (g.R.Repository.content c.args.view.now) c.args.ask.now) g.S.ReplySink.writes g.met.S.ReplySink.more _ _ _
    c.args.range.start c.loop-revision.revision c.args.range.end within c.loop-revision.invariant c.in_err-say_revision.ensures)

pub returns : goal.returns
returns g c =
    let all : c.loop-revision.revision ≡ c.args.range.end = search (rules, arith) in
    turn_ended (revision_replayed (g.R.Repository.content c.args.view.now) c.args.ask.now) g.S.ReplySink.writes g.met.S.ReplySink.more
    c.say_revision-2.result _ _ _ c.args.range.start c.loop-revision.revision c.args.range.end all c.loop-revision.invariant c.say_revision-2.ensures
