use Rattle.std.proofs.{Common.{false, [], ◌∷◌, ◌++◌, ap, subst, ◌∙◌}, lemmas.Result.IfOk-weaker}
use Rattle.drive_visits.specs.{Knowing.paths_of, Left.AreVisitsOf}
use Rattle.drive_visits.proofs.Knowing.{itself_reached, one_known}
use Rattle.drive_visits.proofs.making.unvisited_top.Goals as goal

pub unvisited_staying-requires : goal.unvisited_staying-requires
unvisited_staying-requires g c = record {
  from = c.in_ok-top.ensures.1;
  near = itself_reached c.in_ok-top.top.path (paths_of c.push.new.self.items)
      (ap paths_of (c.in_ok-push.ensures.items ∙ ap (λ xs. xs ++ c.in_ok-copy.copy ∷ []) c.new-places.ensures.items) ∙ ap (λ p. p ∷ []) c.in_ok-copy.ensures.0);
  known = one_known (g.S.Sides.knows c.args.sides.now) c.new-places.result.items c.push.new.self.items c.in_ok-copy.copy c.in_ok-push.ensures.items c.new-places.ensures.items c.in_ok-copy.ensures.1;
}

pub returns-clause-left : goal.returns-clause-left
returns-clause-left g c =
    IfOk-weaker c.unvisited_staying.result _ _ (λ here all. λ vs left.
    subst (λ ps. AreVisitsOf (g.S.Sides.trees c.args.sides.now) false ps vs)
    (ap paths_of (c.in_ok-push.ensures.items ∙ ap (λ xs. xs ++ c.in_ok-copy.copy ∷ []) c.new-places.ensures.items) ∙ ap (λ p. p ∷ []) (c.in_ok-copy.ensures.0 ∙ c.in_ok-top.ensures.0)) (all vs left))
    c.unvisited_staying.ensures.left
