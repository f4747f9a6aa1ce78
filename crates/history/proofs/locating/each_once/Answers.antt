use Rattle.std.proofs.Common.{◌∙◌, ◌++◌, ◌∷◌, [], sym, ap, arith, get_or}
use Rattle.history.proofs.{Once.{once_new, once_again, seen_more, not_seen, was_seen}, locating.each_once.Goals.{then-branch+in_ok-push, else-branch}}
use Rattle.history.proofs.locating.each_once.Goals as goal

pub loop-revision-preserved : goal.loop-revision-preserved
loop-revision-preserved c = record {
  once = elim c.if-branch.branch [
    | then-branch+in_ok-push w ↦
        ap (λ v. v.items) w.once-is
        ∙ w.in_ok-push.ensures.items
        ∙ ap (λ xs. xs ++ get_or c.args.revisions.now c.loop-revision.revision-index 0 ∷ []) c.loop-revision.invariant.once
        ∙ sym (once_new c.args.revisions.now c.loop-revision.revision-index (omega arith)
        (not_seen _ _ _ c.in_ok-insert.ensures.added w.if-branch.true (c.loop-revision.invariant.seen _)))
    | else-branch w ↦
        ap (λ v. v.items) w.once-is
        ∙ c.loop-revision.invariant.once
        ∙ sym (once_again c.args.revisions.now c.loop-revision.revision-index (omega arith)
        (was_seen _ _ _ c.in_ok-insert.ensures.added w.if-branch.false (c.loop-revision.invariant.seen _)))
  ];
  seen = λ k.
      c.in_ok-insert.ensures.updates.0 k
      ∙ seen_more c.args.revisions.now c.loop-revision.revision-index k _ (omega arith) (c.loop-revision.invariant.seen k);
}
