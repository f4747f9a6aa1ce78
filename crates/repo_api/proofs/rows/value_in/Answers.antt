use Rattle.std.proofs.Common.{ℕ, List, Some, refl, sym, ap, ◌∙◌}
use Rattle.repo_api.proofs.Ordered.{one_found, none_found}
use Rattle.repo_api.proofs.rows.value_in.Goals as goal

pub returns-in-Ok : goal.returns-in-Ok
returns-in-Ok c =
    let rows = c.args.rows.now in
    let row = c.index-rows-place.result in
    ap (λ (r : List ℕ × List ℕ). Some r.1) (sym c.index-rows-place.is)
    ∙ one_found rows rows refl c.args.name.now c.in-Ok.place row c.index-rows-place.is c.in-Ok.ensures.found c.in-Ok.ensures.around

pub returns-in-Err : goal.returns-in-Err
returns-in-Err c = none_found c.args.rows.now c.args.rows.now refl c.args.name.now c.in-Err.field-0 c.in-Err.ensures.absent
