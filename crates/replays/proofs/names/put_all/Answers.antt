use Rattle.std.proofs.{Common.{◌||◌, sym, ap, ◌∙◌, take}, lemmas.List.Folds.list_any_more}
use Rattle.std.specs.List.{list_any}
use Rattle.svnpath.specs.Paths.{same_component}
use Rattle.repo_api.specs.Readings.{is_name_among}
use Rattle.replays.proofs.NameSets.{among_inserted, among_lent, with_name, take-all}
use Rattle.replays.proofs.names.put_all.Goals as goal

pub loop-name-preserved : goal.loop-name-preserved
loop-name-preserved c = λ x.
    ap (λ ks. is_name_among ks x) c.in_ok-insert.ensures.keys
    ∙ among_inserted c.loop-name.names.keys c.in_ok-clone.field-0 x
    ∙ with_name (is_name_among c.loop-name.names.keys x) (is_name_among c.args.names.now.keys x) (list_any (λ n. same_component x n.now) (take c.loop-name.name-index c.args.found.now)) (same_component x c.in_ok-clone.field-0) (c.loop-name.invariant x)
    ∙ ap (λ b. is_name_among c.args.names.now.keys x || b)
    (ap (λ y. list_any (λ n. same_component x n.now) (take c.loop-name.name-index c.args.found.now) || same_component x y) (c.in_ok-clone.ensures.cases ∙ ap (λ n. n.now) c.name-item.is)
    ∙ sym (list_any_more (λ n. same_component x n.now) c.args.found.now c.loop-name.name-index c.name-item.result c.loop-name-test.true))

pub returns : goal.returns
returns c = λ x.
    c.loop-name.invariant x
    ∙ ap (λ b. is_name_among c.args.names.now.keys x || b)
    (ap (λ ns. list_any (λ n. same_component x n.now) ns) (take-all c.loop-name.name-index c.args.found.now c.loop-name-test.false)
    ∙ among_lent c.args.found.now x)
