use Rattle.std.proofs.Common.{sym, subst, ◌∙◌}
use Rattle.repo_api.specs.Rows.{AreInOrder}
use Rattle.repo_api.proofs.Ordered.{put_found, put_new, order_put}
use Rattle.repo_api.proofs.rows.put.Goals as goal

pub returns-in-Ok-clause-ok : goal.returns-in-Ok-clause-ok
returns-in-Ok-clause-ok c =
    put_found c.args.rows.now.items c.deref.result.now c.deref.ensures.value c.args.name c.args.value c.in-Ok.place c.in-Ok.ensures.found c.in-Ok.ensures.around

pub returns-in-Ok-clause-order : goal.returns-in-Ok-clause-order
returns-in-Ok-clause-order c =
    subst AreInOrder (sym (put_found c.args.rows.now.items c.deref.result.now c.deref.ensures.value c.args.name c.args.value c.in-Ok.place c.in-Ok.ensures.found c.in-Ok.ensures.around))
    (order_put c.args.rows.now.items c.args.name c.args.value c.requires)

pub returns-in_ok-add-in-Err-clause-ok : goal.returns-in_ok-add-in-Err-clause-ok
returns-in_ok-add-in-Err-clause-ok c =
    c.in_ok-add-in-Err.ensures.ok ∙ put_new c.args.rows.now.items c.deref.result.now c.deref.ensures.value c.args.name c.args.value c.in-Err.place c.in-Err.ensures.absent

pub returns-in_ok-add-in-Err-clause-order : goal.returns-in_ok-add-in-Err-clause-order
returns-in_ok-add-in-Err-clause-order c =
    subst AreInOrder (sym (c.in_ok-add-in-Err.ensures.ok ∙ put_new c.args.rows.now.items c.deref.result.now c.deref.ensures.value c.args.name c.args.value c.in-Err.place c.in-Err.ensures.absent))
    (order_put c.args.rows.now.items c.args.name c.args.value c.requires)
