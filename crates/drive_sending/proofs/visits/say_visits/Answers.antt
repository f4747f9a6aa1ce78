use Rattle.std.proofs.{Common.arith, lemmas.Result.err_from_is_err_and}
use Rattle.drive_visits.specs.Knowing.{visit_of}
use Rattle.drive_sides.specs.Plans.{whole}
use Rattle.drive_sending.proofs.Visited.{deeper_by_one, said_all, said_failed, said_next, said_part}
use Rattle.drive_sending.proofs.visits.say_visits.Goals as goal

pub returns-in_err-visit : goal.returns-in_err-visit
returns-in_err-visit g c =
    let p = err_from_is_err_and c.from_residual.result c.from_residual.ensures.1 in
    rw (p.1) (said_part (g.R.Repository.content c.args.trees.now.view.now) (whole c.args.trees.now.report.now c.args.trees.now.root) g.S.ReplySink.writes c.args.visitor.now c.loop.visitor c.args.out.now c.loop.out c.loop.around c.loop.invariant.1)

pub returns-in_default : goal.returns-in_default
returns-in_default g c =
    said_all (g.R.Repository.content c.args.trees.now.view.now) (whole c.args.trees.now.report.now c.args.trees.now.root) g.S.ReplySink.writes
    c.args.visitor.now c.loop.visitor c.args.out.now c.loop.out c.loop.around c.loop.invariant.1 (rw c.in_default.is at c.in_ok-visit.ensures.next)

pub returns-in_err-around : goal.returns-in_err-around
returns-in_err-around g c =
    let p = err_from_is_err_and c.from_residual-in_err-around.result c.from_residual-in_err-around.ensures.1 in
    rw (p.1) (said_failed (g.R.Repository.content c.args.trees.now.view.now) (whole c.args.trees.now.report.now c.args.trees.now.root) g.S.ReplySink.writes
    g.met.S.ReplySink.more c.args.visitor.now c.loop.visitor c.next.new.self c.args.out.now c.loop.out c.say_next.new.out c.loop.around (visit_of c.in-Some.visit)
    c.loop.invariant.1 (rw c.in-Some.is at c.in_ok-visit.ensures.next) c.in_err-around.ensures.said)

pub loop-preserved : goal.loop-preserved
loop-preserved g c = (
  (omega (arith, deeper_by_one c.loop.around (visit_of c.in-Some.visit), c.in_ok-around.ensures.after, c.loop.invariant.0.0), c.in_ok-visit.ensures.known),
  said_next (g.R.Repository.content c.args.trees.now.view.now) (whole c.args.trees.now.report.now c.args.trees.now.root) g.S.ReplySink.writes
      g.met.S.ReplySink.more c.args.visitor.now c.loop.visitor c.next.new.self c.args.out.now c.loop.out c.say_next.new.out c.loop.around c.in_ok-around.around
      (visit_of c.in-Some.visit) c.loop.invariant.1 (rw c.in-Some.is at c.in_ok-visit.ensures.next) c.in_ok-around.ensures.after c.in_ok-around.ensures.said,
)

pub returns : goal.returns
returns g c =
    said_part (g.R.Repository.content c.args.trees.now.view.now) (whole c.args.trees.now.report.now c.args.trees.now.root) g.S.ReplySink.writes c.args.visitor.now c.loop.visitor c.args.out.now c.loop.out c.loop.around c.loop.invariant.1
