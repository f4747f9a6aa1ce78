use Rattle.std.proofs.Common.{rules, ◌++◌, drop, length, sym, ap, subst, ◌∙◌}
use Rattle.reporter.specs.Named.{IsNamed}
use Rattle.reporter.proofs.Naming.{from_anchor}
use Rattle.reporter.proofs.sources.report_path.Goals as goal

pub returns : goal.returns
returns c = (
  search rules,
  subst IsNamed (sym (c.in_ok-rebased.ensures ∙ ap (λ r. r ++ drop (length c.args.ask.now.anchor) c.in_ok-path.path) c.root.ensures))
      (from_anchor c.args.ask.now.anchor c.args.ask.now.target c.in_ok-own.own c.in_ok-path.path (c.in_ok-own.ensures ∙ ap (λ t. c.args.ask.now.anchor ++ t) c.as_path.ensures.path) c.as_path.ensures.named c.in_ok-path.ensures.1.whole c.in_ok-path.ensures.1.named),
)
