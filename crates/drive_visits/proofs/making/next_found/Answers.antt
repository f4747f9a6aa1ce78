use Rattle.std.proofs.{Common.{◌++◌, map, sym, subst, []}, lemmas.Result.IfOk-weaker}
use Rattle.drive_visits.specs.Visits.Visit.{Delete}
use Rattle.drive_visits.proofs.Leaving.{LeftOf}
use Rattle.drive_visits.proofs.making.next_found.Goals as goal

pub returns-clause-next : goal.returns-clause-next
returns-clause-next g c =
    IfOk-weaker c.next_entry.result _ _ (λ found goes_on. λ so. (
      (goes_on so).0,
      record {
        next = λ vs more is left. subst (λ ds. LeftOf (g.S.Sides.trees c.args.sides.now) (map Delete ds) c.args.here.now.is_anew c.args.here.now.entries.items (vs ++ more)) (sym c.in_default.ensures.items) ((goes_on so).1.next vs more is left);
        end = λ none. subst (λ ds. LeftOf (g.S.Sides.trees c.args.sides.now) (map Delete ds) c.args.here.now.is_anew c.args.here.now.entries.items []) (sym c.in_default.ensures.items) ((goes_on so).1.end none);
      },
    ))
    c.next_entry.ensures.next
