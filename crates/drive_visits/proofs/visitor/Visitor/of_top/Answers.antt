use Rattle.std.proofs.{Common.subst, lemmas.Result.IfOk-weaker}
use Rattle.drive_visits.proofs.{Knowing.holds_new, Leaving.{alone_left, top_plan}}
use Rattle.drive_visits.specs.Left.{IsLeft}
use Rattle.drive_visits.proofs.visitor.Visitor.of_top.Goals as goal

pub returns-clause-plan : goal.returns-clause-plan
returns-clause-plan g c =
    IfOk-weaker c.of.result _ _ (λ v made. λ vs left.
    top_plan (g.S.Sides.trees c.args.sides.now) (g.S.Sides.start c.args.sides.now) vs
    (c.in_ok-here.ensures.left vs (alone_left (g.S.Sides.trees c.args.sides.now) c.in_ok-here.here vs (subst (λ ds. IsLeft (g.S.Sides.trees c.args.sides.now) ds vs) made.first (left (made.memory (g.S.Sides.trees c.args.sides.now)))))))
    c.of.ensures

pub returns-clause-known : goal.returns-clause-known
returns-clause-known g c = IfOk-weaker c.of.result _ _ (λ v made. holds_new (g.S.Sides.knows c.args.sides.now) v c.in_ok-here.here made c.in_ok-here.ensures.known) c.of.ensures
