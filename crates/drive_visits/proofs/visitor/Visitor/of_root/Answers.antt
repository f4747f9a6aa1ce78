use Rattle.std.proofs.{Common.{false, subst, ◌∙◌}, lemmas.Result.IfOk-weaker}
use Rattle.drive_visits.proofs.{Knowing.holds_new, Leaving.{alone_left, root_plan}}
use Rattle.drive_visits.specs.Left.{IsLeft, IsPlanBelow}
use Rattle.drive_visits.proofs.visitor.Visitor.of_root.Goals as goal

pub returns-clause-plan : goal.returns-clause-plan
returns-clause-plan g c =
    IfOk-weaker c.of.result _ _ (λ v made. λ vs left.
    root_plan (g.S.Sides.trees c.args.sides.now) vs c.requires.old c.requires.new c.requires.stays (g.S.Sides.leads c.args.sides.now)
    (subst (λ p. IsPlanBelow (g.S.Sides.trees c.args.sides.now) false p vs) (c.in_ok-top.ensures.0 ∙ c.requires.root)
    (c.in_ok-below.ensures.left vs (alone_left (g.S.Sides.trees c.args.sides.now) c.in_ok-below.below vs (subst (λ ds. IsLeft (g.S.Sides.trees c.args.sides.now) ds vs) made.first (left (made.memory (g.S.Sides.trees c.args.sides.now))))))))
    c.of.ensures

pub returns-clause-known : goal.returns-clause-known
returns-clause-known g c = IfOk-weaker c.of.result _ _ (λ v made. holds_new (g.S.Sides.knows c.args.sides.now) v c.in_ok-below.below made c.in_ok-below.ensures.known) c.of.ensures
