use Rattle.std.proofs.{Common.{subst, sym}, lemmas.Result.IfOk-weaker}
use Rattle.drive_visits.proofs.{Knowing.{children_reached, left_known}, Leaving.anew_left}
use Rattle.drive_visits.specs.Left.{IsPlanBelow}
use Rattle.drive_visits.proofs.making.unvisited_below.Goals as goal

pub returns-then-not-is_anew-clause-left : goal.returns-then-not-is_anew-clause-left
returns-then-not-is_anew-clause-left g c =
    IfOk-weaker c.unvisited_below_staying.result _ _ (λ below all. λ vs left.
    subst (λ b. IsPlanBelow (g.S.Sides.trees c.args.sides.now) b c.args.place.now.path vs) (sym c.if-not-is_anew.true) (all vs left))
    c.unvisited_below_staying.ensures.left

pub returns-clause-left : goal.returns-clause-left
returns-clause-left g c = λ vs left.
    anew_left (g.S.Sides.trees c.args.sides.now) c.args.place.now.path c.new.result.items c.from_vec.result.items c.in_ok-children.children.items c.args.is_anew vs c.new.ensures.items c.from_vec.ensures.items c.if-not-is_anew.false c.in_ok-children.ensures left

pub returns-clause-known : goal.returns-clause-known
returns-clause-known g c =
    left_known (g.S.Sides.knows c.args.sides.now) _ c.args.place.now.path c.in_ok-children.children.items c.in_ok-from.ensures c.from_vec.ensures.items
    (children_reached c.args.place.now.path c.in_ok-children.children.items c.in_ok-children.ensures.children.each)
