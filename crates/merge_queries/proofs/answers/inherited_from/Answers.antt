use Rattle.std.proofs.Common.{◌++◌, length, drop, ap, subst, ◌∙◌}
use Rattle.svnpath.specs.Paths.{PathValue}
use Rattle.mergeinfo.specs.Sources.{inherited, IsNormalFormOf}
use Rattle.merge_queries.proofs.Inheriting.{inherited_again}
use Rattle.merge_queries.proofs.answers.inherited_from.Goals as goal

pub returns : goal.returns
returns c = λ sources form.
    let is = c.in_ok-rest.ensures ∙ ap (λ (to : PathValue). to ++ drop (length c.args.above.now) c.args.path.now) c.root.ensures in
    inherited_again sources c.args.info.now _ (drop (length c.args.above.now) c.args.path.now) form
    (subst (λ (rest : PathValue). IsNormalFormOf (inherited rest c.args.info.now) c.in_ok-inherited.field-0) is c.in_ok-inherited.ensures.value)
