use Rattle.std.proofs.{Common.{◌||◌, sym, ap, ◌∙◌, take, option_copied}, lemmas.List.Folds.list_any_more}
use Rattle.std.specs.{List.list_any, Prelude.is_some}
use Rattle.svnpath.specs.Paths.{same_component}
use Rattle.repo_api.specs.Readings.{name_in, is_name_among}
use Rattle.drive_sides.proofs.Naming.{among_inserted, among_grafts, is_named, not_named, with_name, with_none, take-all}
use Rattle.drive_sides.proofs.names.put_graft_names.Goals as goal

pub loop-graft-preserved : goal.loop-graft-preserved
loop-graft-preserved c = λ x.
    ap (λ ks. is_name_among ks x) c.in_ok-insert.ensures.keys
    ∙ among_inserted c.loop-graft.names.keys c.in_ok-clone.field-0 x
    ∙ with_name (is_name_among c.loop-graft.names.keys x) (is_name_among c.args.names.now.keys x) (list_any (λ g. is_named x (name_in c.args.path.now g.path)) (take c.loop-graft.graft-index c.args.grafts.now)) (same_component x c.in_ok-clone.field-0) (c.loop-graft.invariant x)
    ∙ ap (λ b. is_name_among c.args.names.now.keys x || b)
    (ap (λ b. list_any (λ g. is_named x (name_in c.args.path.now g.path)) (take c.loop-graft.graft-index c.args.grafts.now) || b)
    (ap (same_component x) c.in_ok-clone.ensures.cases ∙ ap (λ o. is_named x (option_copied o)) (sym c.in-Some.is) ∙ ap (is_named x) c.name_in.ensures ∙ ap (λ g. is_named x (name_in c.args.path.now g.path)) c.graft-item.is)
    ∙ sym (list_any_more (λ g. is_named x (name_in c.args.path.now g.path)) c.args.grafts.now c.loop-graft.graft-index c.graft-item.result c.loop-graft-test.true))

pub loop-graft-preserved-in_default : goal.loop-graft-preserved-in_default
loop-graft-preserved-in_default c = λ x.
    with_none (is_name_among c.loop-graft.names.keys x) (is_name_among c.args.names.now.keys x) (list_any (λ g. is_named x (name_in c.args.path.now g.path)) (take c.loop-graft.graft-index c.args.grafts.now)) (is_named x (name_in c.args.path.now c.graft-item.result.path)) (c.loop-graft.invariant x)
    (not_named x (name_in c.args.path.now c.graft-item.result.path) (ap is_some (sym c.name_in.ensures ∙ ap option_copied c.in_default.is)))
    ∙ ap (λ b. is_name_among c.args.names.now.keys x || b)
    (ap (λ b. list_any (λ g. is_named x (name_in c.args.path.now g.path)) (take c.loop-graft.graft-index c.args.grafts.now) || b)
    (ap (λ g. is_named x (name_in c.args.path.now g.path)) c.graft-item.is)
    ∙ sym (list_any_more (λ g. is_named x (name_in c.args.path.now g.path)) c.args.grafts.now c.loop-graft.graft-index c.graft-item.result c.loop-graft-test.true))

pub returns : goal.returns
returns c = λ x.
    c.loop-graft.invariant x
    ∙ ap (λ b. is_name_among c.args.names.now.keys x || b)
    (ap (λ gs. list_any (λ g. is_named x (name_in c.args.path.now g.path)) gs) (take-all c.loop-graft.graft-index c.args.grafts.now c.loop-graft-test.false)
    ∙ sym (among_grafts c.args.path.now c.args.grafts.now x))
