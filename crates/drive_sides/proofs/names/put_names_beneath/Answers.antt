use Rattle.std.proofs.{Common.{◌++◌, ◌∷◌, [], sym, ap, ◌∙◌, take, option_copied}, lemmas.Bool.{or_from, or_parts}, lemmas.List.Folds.list_any_more}
use Rattle.std.specs.List.{list_any}
use Rattle.svnpath.specs.Paths.{is_at_or_under, same_component}
use Rattle.repo_api.specs.Readings.{is_name_among}
use Rattle.drive_sides.proofs.{Naming.{among_inserted, is_named, take-all}, Ungrafted.not_by}
use Rattle.drive_sides.proofs.names.put_names_beneath.Goals as goal

pub loop-graft-preserved : goal.loop-graft-preserved
loop-graft-preserved c = λ x out.
    let p = c.args.path.now in
    let graft = c.graft-item.result in
    let parts = or_parts (is_name_among c.loop-graft.names.keys x) (same_component x c.in_ok-clone.field-0)
    (sym (ap (λ ks. is_name_among ks x) c.in_ok-insert.ensures.keys ∙ among_inserted c.loop-graft.names.keys c.in_ok-clone.field-0 x) ∙ out) in
    list_any_more (λ g. is_at_or_under g.path (p ++ x ∷ [])) c.args.grafts.now c.loop-graft.graft-index graft c.loop-graft-test.true
    ∙ or_from (list_any (λ g. is_at_or_under g.path (p ++ x ∷ [])) (take c.loop-graft.graft-index c.args.grafts.now)) _ (c.loop-graft.invariant x parts.0)
    (sym (ap (λ g. is_at_or_under g.path (p ++ x ∷ [])) c.graft-item.is)
    ∙ not_by p x graft.path (option_copied c.name_beneath.result) c.name_beneath.ensures
    (ap (λ o. is_named x (option_copied o)) c.in-Some.is ∙ sym (ap (same_component x) c.in_ok-clone.ensures.cases) ∙ parts.1))

pub loop-graft-preserved-in_default : goal.loop-graft-preserved-in_default
loop-graft-preserved-in_default c = λ x out.
    let p = c.args.path.now in
    let graft = c.graft-item.result in
    list_any_more (λ g. is_at_or_under g.path (p ++ x ∷ [])) c.args.grafts.now c.loop-graft.graft-index graft c.loop-graft-test.true
    ∙ or_from (list_any (λ g. is_at_or_under g.path (p ++ x ∷ [])) (take c.loop-graft.graft-index c.args.grafts.now)) _ (c.loop-graft.invariant x out)
    (sym (ap (λ g. is_at_or_under g.path (p ++ x ∷ [])) c.graft-item.is)
    ∙ not_by p x graft.path (option_copied c.name_beneath.result) c.name_beneath.ensures (ap (λ o. is_named x (option_copied o)) c.in_default.is))

pub returns : goal.returns
returns c = λ x out.
    sym (ap (list_any (λ g. is_at_or_under g.path (c.args.path.now ++ x ∷ []))) (take-all c.loop-graft.graft-index c.args.grafts.now c.loop-graft-test.false))
    ∙ c.loop-graft.invariant x out
