use Rattle.std.proofs.Common.{ap, ◌∙◌}
use Rattle.std.specs.{List.remove, Prelude.is_ok}
use Rattle.shared_map.specs.Entries.{values}
use Rattle.shared_map.proofs.Copies.{kept_or_copied, at_err, on_err, values_remove}
use Rattle.shared_map.proofs.parts.remove_at.Goals as goal

pub returns-in_err-list-clause-err : goal.returns-in_err-list-clause-err
returns-in_err-list-clause-err g c =
    on_err c.from_residual.result _ (kept_or_copied c.args.part.now.value.items _ (λ e. ap (λ v. v.items) e)
    (at_err c.make_mut.result c.in_err-list.field-0.0 _ c.in_err-list.was c.make_mut.follows.holds-at-none))

pub returns-clause-ok : goal.returns-clause-ok
returns-clause-ok g c =
    ap (λ v. values v.items) (c.make_mut.follows.holds c.remove.new.self (ap is_ok c.in_ok-list.was)) ∙ ap values c.remove.ensures.items
    ∙ values_remove c.args.place c.in_ok-list.list.now.items
    ∙ ap (λ es. remove es c.args.place) (kept_or_copied c.args.part.now.value.items _ (λ e. ap (λ v. v.items) e) c.in_ok-list.ensures.value)
