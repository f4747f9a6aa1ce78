use Rattle.std.proofs.Common.{rules, sym, ap, ◌∙◌}
use Rattle.svnpath.specs.Texts.{joined}
use Rattle.reporter.proofs.Naming.{joined_named}
use Rattle.reporter.proofs.judging.path_named.Goals as goal

pub returns : goal.returns
returns c = (
  search rules,
  joined_named c.args.base.now c.args.text.now c.in_ok-join.field-0 (ap (joined c.args.base.now) (sym c.as_slice.ensures) ∙ c.in_ok-join.ensures.value),
)
