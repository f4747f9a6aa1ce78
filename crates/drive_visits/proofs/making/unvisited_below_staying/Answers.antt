use Rattle.std.proofs.lemmas.Result.{IfOk-weaker}
use Rattle.drive_visits.proofs.{Knowing.children_reached, Leaving.{unlike_children, unlike_left}}
use Rattle.drive_visits.specs.Knowing.{paths_of}
use Rattle.drive_visits.proofs.making.unvisited_below_staying.Goals as goal

pub returns-clause-left : goal.returns-clause-left
returns-clause-left g c =
    IfOk-weaker c.unvisited_staying.result _ _ (λ below all. λ vs left.
    unlike_left (g.S.Sides.trees c.args.sides.now) c.args.place.now.path (paths_of c.in_ok-children.children.items) vs c.in_ok-children.ensures.listed (all vs left))
    c.unvisited_staying.ensures.left

pub unvisited_staying-requires-clause-near : goal.unvisited_staying-requires-clause-near
unvisited_staying-requires-clause-near g c =
    children_reached c.args.place.now.path (paths_of c.in_ok-children.children.items)
    (unlike_children (g.S.Sides.trees c.args.sides.now) c.args.place.now.path (paths_of c.in_ok-children.children.items) c.in_ok-children.ensures.listed)
