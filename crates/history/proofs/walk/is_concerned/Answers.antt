use Rattle.std.proofs.Common.{sym, ◌∙◌}
use Rattle.history.proofs.Passing.{unconcerned}
use Rattle.history.proofs.walk.is_concerned.Goals as goal

pub returns-else-is_root : goal.returns-else-is_root
returns-else-is_root c = λ none.
    unconcerned c.args.changes.now c.args.path.now (λ root. cc (c.if-is_root.ensures.1 root)) (sym c.is_any_concerning.ensures ∙ none)
