use Rattle.std.proofs.{Common.{length, ap, arith, ◌∙◌}, lemmas.Bool.false≢true, lemmas.List.length_push}
use Rattle.svnpath.specs.Paths.{PathValue}
use Rattle.block_rules.proofs.kids.is_child.Goals as goal

pub returns-in-None : goal.returns-in-None
returns-in-None c = (
  λ yes. absurd (false≢true yes),
  λ is.
      let long = ap (λ (p : PathValue). length p) (c.components.ensures ∙ is) ∙ length_push c.args.directory.now c.args.name.now in
      absurd (omega (arith, long, c.in-None.ensures.cases)),
)
