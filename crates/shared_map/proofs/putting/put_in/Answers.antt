use Rattle.std.proofs.Common.{ap, ◌∙◌}
use Rattle.std.specs.List.{insert}
use Rattle.shared_map.specs.Entries.{values}
use Rattle.shared_map.proofs.Places.{put_found, put_new}
use Rattle.shared_map.proofs.putting.put_in.Goals as goal

pub returns-in-Ok-clause-ok : goal.returns-in-Ok-clause-ok
returns-in-Ok-clause-ok g c =
    put_found c.args.list.now.items c.deref.result.now c.in-Ok.place c.args.entry c.deref-2.result.now c.deref.ensures.value c.deref-2.ensures
    c.in-Ok.ensures.found c.in-Ok.ensures.around

pub returns-in_ok-insert-in-Err-clause-ok : goal.returns-in_ok-insert-in-Err-clause-ok
returns-in_ok-insert-in-Err-clause-ok g c =
    ap values c.in_ok-insert-in-Err.ensures.items
    ∙ ap (λ xs. values (insert xs c.in-Err.place c.args.entry)) c.reserve_exact.ensures.items
    ∙ put_new c.args.list.now.items c.deref.result.now c.in-Err.place c.args.entry c.deref-2.result.now c.deref.ensures.value c.deref-2.ensures
    c.in-Err.ensures.absent
