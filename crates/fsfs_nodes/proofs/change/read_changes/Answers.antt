use Rattle.std.proofs.{Common.{length, sym, ap, ◌∙◌, inl, inr}, lemmas.Result.err_from_is_err_and, lemmas.List.nil_from_length}
use Rattle.std.proofs.lemmas.Bool.{eqb-true, eqb-false}
use Rattle.fsfs_nodes.proofs.PartLoops.{none_left, no_change, goes_on, some_left}
use Rattle.fsfs_nodes.proofs.change.read_changes.Goals as goal

pub returns-then-is_empty : goal.returns-then-is_empty
returns-then-is_empty c =
    none_left c.loop.changes.items (length c.args.bytes.now) c.loop.counter c.loop.rest.now _ (nil_from_length c.loop.rest.now (eqb-true _ _ (sym c.is_empty.ensures ∙ c.if-is_empty.true))) c.loop.invariant

pub returns-in_err-change : goal.returns-in_err-change
returns-in_err-change c =
    let p = err_from_is_err_and c.from_residual.result c.from_residual.ensures.1 in
    rw (p.1, p.2) (elim c.in_err-change.ensures [
      | inl e ↦ inl (no_change c.loop.changes.items (length c.args.bytes.now) c.loop.counter c.loop.rest.now _ c.loop-test.true (λ none. eqb-false _ _ (sym c.is_empty.ensures ∙ c.if-is_empty.false) (ap length none)) c.loop.invariant c.in_err-change.field-0.0 e)
      | inr e ↦ inr e
    ])

pub loop-preserved : goal.loop-preserved
loop-preserved c =
    rw c.in_ok-push.ensures.items (goes_on c.loop.changes.items (length c.args.bytes.now) c.loop.counter c.loop.rest.now _ c.loop-test.true (λ none. eqb-false _ _ (sym c.is_empty.ensures ∙ c.if-is_empty.false) (ap length none)) c.loop.invariant c.in_ok-change.change c.in_ok-change.behind.now c.in_ok-change.ensures)

pub returns-then-is_empty-2 : goal.returns-then-is_empty-2
returns-then-is_empty-2 c =
    none_left c.loop.changes.items (length c.args.bytes.now) c.loop.counter c.loop.rest.now _ (nil_from_length c.loop.rest.now (eqb-true _ _ (sym c.is_empty-2.ensures ∙ c.if-is_empty-2.true))) c.loop.invariant

pub returns-else-is_empty-2 : goal.returns-else-is_empty-2
returns-else-is_empty-2 c =
    inl (some_left c.loop.changes.items (length c.args.bytes.now) c.loop.counter c.loop.rest.now _ c.loop-test.false (λ none. eqb-false _ _ (sym c.is_empty-2.ensures ∙ c.if-is_empty-2.false) (ap length none)) c.loop.invariant)
