use Rattle.std.proofs.Common.{rules, length, sym, ap, ◌∙◌}
use Rattle.shared_revisions.specs.{Contents.revisions_of, declared.held.Held.Held}
use Rattle.world.proofs.{Alike.{not_copied, over_the_same}, Lists.{as_many, begins_on, goes_on}}
use Rattle.world.proofs.editing.edit_txn.Goals.{then-not-is_copy-via-then-not-is_copy, then-not-is_copy-via-else-not-is_copy+then-count}
use Rattle.world.proofs.editing.edit_txn.Goals as goal

pub edit_here-requires-clause-alike : goal.edit_here-requires-clause-alike
edit_here-requires-clause-alike c =
    let over = c.args.txn.now.over.value in
    let shown = c.args.txn.now.shown.value in
    let h = c.args.held.now.value in
    elim c.then-not-is_copy.branch [
      | then-not-is_copy-via-then-not-is_copy w ↦ not_copied c.args.op.now over h (search rules)
      | then-not-is_copy-via-else-not-is_copy+then-count w ↦ over_the_same c.args.op.now over h
          (as_many (revisions_of over) (revisions_of h)
          (begins_on (revisions_of over) (revisions_of shown) (revisions_of h)
          (goes_on (revisions_of over) (revisions_of shown) c.args.txn.now.begins) c.requires.rests.1)
          (sym (w.count.ensures ∙ ap (λ (x : Held). length (revisions_of x)) w.deref.ensures)
          ∙ w.if-count.true
          ∙ w.count-else-not-is_copy.ensures ∙ ap (λ (x : Held). length (revisions_of x)) w.deref-else-not-is_copy.ensures))
    ]
