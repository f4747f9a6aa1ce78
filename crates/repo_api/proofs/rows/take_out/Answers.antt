use Rattle.std.proofs.Common.{sym, subst, ◌∙◌}
use Rattle.repo_api.specs.Rows.{AreInOrder}
use Rattle.repo_api.proofs.Ordered.{one_gone, none_there, order_gone}
use Rattle.repo_api.proofs.rows.take_out.Goals as goal

pub returns-in-Ok-clause-taken : goal.returns-in-Ok-clause-taken
returns-in-Ok-clause-taken c =
    c.remove.ensures.items ∙ one_gone c.args.rows.now.items c.deref.result.now c.deref.ensures.value c.args.name.now c.in-Ok.place c.in-Ok.ensures.found c.in-Ok.ensures.around

pub returns-in-Ok-clause-order : goal.returns-in-Ok-clause-order
returns-in-Ok-clause-order c =
    subst AreInOrder (sym (c.remove.ensures.items ∙ one_gone c.args.rows.now.items c.deref.result.now c.deref.ensures.value c.args.name.now c.in-Ok.place c.in-Ok.ensures.found c.in-Ok.ensures.around))
    (order_gone c.args.rows.now.items c.args.name.now c.requires)

pub returns-in_default-clause-taken : goal.returns-in_default-clause-taken
returns-in_default-clause-taken c =
    none_there c.args.rows.now.items c.deref.result.now c.deref.ensures.value c.args.name.now c.in_default.field-0 c.in_default.ensures.absent
