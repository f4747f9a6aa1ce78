use Rattle.std.proofs.Common.{◌∷◌, [], ◌++◌, ◌+◌, true, cond, sym, ap, subst, ◌∙◌, take}
use Rattle.std.specs.{BTreeMap.is_at, BTreeSet.contains, List.list_any}
use Rattle.svnpath.specs.Paths.{path_cmp, same_path}
use Rattle.history.specs.Logs.{AreSameNamed}
use Rattle.history.proofs.{Naming.{named_again, named_new, seen_with}, Once.was_seen}
use Rattle.history.proofs.walks.each_named.Goals.{then-branch+in_ok-clone-2+in_ok-push, else-branch}
use Rattle.history.proofs.walks.each_named.Goals as goal

pub loop-path-preserved : goal.loop-path-preserved
loop-path-preserved c = record {
  named = elim c.if-branch.branch [
    | then-branch+in_ok-clone-2+in_ok-push w ↦
        subst (λ xs. AreSameNamed xs (take (c.loop-path.path-index + 1) c.args.paths.now))
        (sym (ap (λ v. v.items) w.named-is ∙ w.in_ok-push.ensures.items ∙ ap (λ p. c.loop-path.named.items ++ p ∷ []) w.in_ok-clone-2.ensures.cases))
        (named_new c.loop-path.named.items c.args.paths.now c.loop-path.path-index c.path-item.result c.loop-path-test.true c.path-item.is c.loop-path.invariant.named)
    | else-branch w ↦
        subst (λ xs. AreSameNamed xs (take (c.loop-path.path-index + 1) c.args.paths.now)) (sym (ap (λ v. v.items) w.named-is))
        (named_again c.loop-path.named.items c.args.paths.now c.loop-path.path-index c.path-item.result c.loop-path-test.true c.path-item.is
        (ap (λ k. list_any (λ p. same_path p k) (take c.loop-path.path-index c.args.paths.now)) (sym c.in_ok-clone.ensures.cases)
        ∙ was_seen _ _ _ c.in_ok-insert.ensures.added w.if-branch.false (c.loop-path.invariant.seen c.in_ok-clone.field-0))
        c.loop-path.invariant.named)
  ];
  seen = λ q.
      c.in_ok-insert.ensures.updates.0 q
      ∙ ap (λ k. cond (is_at (path_cmp k) q) true (contains path_cmp c.loop-path.seen q)) c.in_ok-clone.ensures.cases
      ∙ seen_with c.args.paths.now c.loop-path.path-index c.path-item.result q (contains path_cmp c.loop-path.seen q) c.loop-path-test.true c.path-item.is (c.loop-path.invariant.seen q);
}
