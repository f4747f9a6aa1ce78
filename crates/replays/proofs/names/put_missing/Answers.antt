use Rattle.std.proofs.Common.{◌||◌, sym, ap, ◌∙◌}
use Rattle.svnpath.specs.Paths.{same_component}
use Rattle.repo_api.specs.Readings.{is_name_among}
use Rattle.replays.proofs.NameSets.{already, among_inserted, query_is}
use Rattle.replays.proofs.names.put_missing.Goals as goal

pub returns-then-contains : goal.returns-then-contains
returns-then-contains c = λ x.
    already c.args.names.now.keys c.args.name.now x (sym (query_is c.args.name.now c.args.names.now.keys) ∙ sym c.contains.ensures ∙ c.if-contains.true)

pub returns : goal.returns
returns c = λ x.
    ap (λ ks. is_name_among ks x) c.in_ok-insert.ensures.keys
    ∙ among_inserted c.args.names.now.keys c.in_ok-clone.field-0 x
    ∙ ap (λ y. is_name_among c.args.names.now.keys x || same_component x y) c.in_ok-clone.ensures.cases
