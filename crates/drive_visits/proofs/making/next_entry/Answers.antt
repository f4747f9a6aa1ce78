use Rattle.std.proofs.Common.{◌++◌, [], ap, map, refl, rules, subst, sym}
use Rattle.drive_visits.specs.{Left.{IsFound, IsPlanOf}, Visits.Visit.Delete}
use Rattle.drive_visits.proofs.{Knowing.left_later, Leaving.entry_left}
use Rattle.drive_visits.proofs.making.next_entry.Goals as goal

pub returns-then-not-is_nothing-clause-next : goal.returns-then-not-is_nothing-clause-next
returns-then-not-is_nothing-clause-next g c = λ so.
    let before = c.loop-path.invariant.1 so in
    let now = c.in_ok-found.ensures.found before.0 in (
      now.0,
      record {
        next = λ vs more is left.
            before.1 (vs ++ more)
            (entry_left (g.S.Sides.trees c.args.sides.now) (map Delete c.loop-path.here.deletes.items) c.loop-path.here.is_anew c.in-Some.path c.loop-path.here.entries.items c.pop_front.new.self.items vs more (ap (map Delete) c.loop-path.invariant.0) c.in-Some.ensures.items (subst (λ p. IsPlanOf (g.S.Sides.trees c.args.sides.now) c.loop-path.here.is_anew p vs) c.in_ok-place.ensures.0 (now.1 vs is)) left);
        end = search rules;
      },
    )

pub returns-then-not-is_nothing-clause-left : goal.returns-then-not-is_nothing-clause-left
returns-then-not-is_nothing-clause-left g c = left_later (g.S.Sides.knows c.args.sides.now) c.loop-path.here _ c.in-Some.path refl c.in-Some.ensures.items c.loop-path.invariant.2

pub loop-path-preserved : goal.loop-path-preserved
loop-path-preserved g c = (
  c.loop-path.invariant.0,
  λ so.
      let before = c.loop-path.invariant.1 so in
      let now = c.in_ok-found.ensures.found before.0 in (
        now.0,
        λ vs left.
            before.1 vs
            (entry_left (g.S.Sides.trees c.args.sides.now) (map Delete c.loop-path.here.deletes.items) c.loop-path.here.is_anew c.in-Some.path c.loop-path.here.entries.items c.pop_front.new.self.items [] vs (ap (map Delete) c.loop-path.invariant.0) c.in-Some.ensures.items
            (subst (λ p. IsPlanOf (g.S.Sides.trees c.args.sides.now) c.loop-path.here.is_anew p []) c.in_ok-place.ensures.0 (now.1 [] (subst (λ f. IsFound (g.S.Sides.trees c.args.sides.now) f []) (sym (c.is_nothing.ensures.0 c.if-not-is_nothing.false)) refl))) left),
      ),
  left_later (g.S.Sides.knows c.args.sides.now) c.loop-path.here _ c.in-Some.path refl c.in-Some.ensures.items c.loop-path.invariant.2,
  c.in_ok-found.ensures.held,
)
