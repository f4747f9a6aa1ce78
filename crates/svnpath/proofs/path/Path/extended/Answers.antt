-- The empty text has no components; another has those that `append_parts` puts beneath the path.
use Rattle.std.proofs.{Common.{inl, inr, sym, ap, ◌∙◌, Ok}, lemmas.Result.err_from_is_err_and}
use Rattle.svnpath.proofs.TextLemmas.{beneath_empty, beneath_plain}
use Rattle.svnpath.proofs.path.Path.extended.Goals as goal

pub returns-then-is_empty-clause-value : goal.returns-then-is_empty-clause-value
returns-then-is_empty-clause-value c = beneath_empty _ _ _ c.in_ok-clone.ensures.cases (sym c.if-is_empty.ensures)

pub returns-clause-value : goal.returns-clause-value
returns-clause-value c =
    beneath_plain _ _ _ _ c.in_ok-above.ensures (sym c.if-is_empty.ensures) c.in_ok-components.ensures.value
    ∙ ap (λ p. Ok p) (sym c.in_ok-from_components.ensures)

pub returns-in_err-components-clause-value : goal.returns-in_err-components-clause-value
returns-in_err-components-clause-value c =
    let passed = err_from_is_err_and c.from_residual-in_err-components.result c.from_residual-in_err-components.ensures.1 in
    rw (passed.1, passed.2)
    (elim c.in_err-components.ensures.value [
      | inl wrong ↦ inl (beneath_plain _ _ _ _ c.in_ok-above.ensures (sym c.if-is_empty.ensures) wrong)
      | inr memory ↦ inr memory
    ])
