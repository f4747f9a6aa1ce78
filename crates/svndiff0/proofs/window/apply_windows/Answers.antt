use Rattle.std.proofs.{Common.{ap, sym, ◌∙◌}, lemmas.Result.err_from_is_err_and}
use Rattle.svndiff0.specs.Document.{going}
use Rattle.svndiff0.proofs.{Sections.grows_more, Documents.{window_shorter, reached_more, reached_end, reached_fault}}
use Rattle.svndiff0.proofs.window.apply_windows.Goals as goal

pub returns-in_err-behind-clause-applies : goal.returns-in_err-behind-clause-applies
returns-in_err-behind-clause-applies c =
    let p = err_from_is_err_and c.from_residual.result c.from_residual.ensures.1 in
    rw (p.1, p.2) (λ h. reached_fault _ _ _ _ _ _ c.windows.invariant.reached (c.in_err-behind.ensures.applies h))

pub windows-smaller : goal.windows-smaller
windows-smaller c = let a = rw c.in-Some.is at c.in_ok-behind.ensures.applies in window_shorter _ _ _ _ _ a.1

pub windows-preserved : goal.windows-preserved
windows-preserved c =
    let a = rw c.in-Some.is at c.in_ok-behind.ensures.applies in
    record {
      reached = reached_more _ _ _ _ _ _ _ _ c.windows.invariant.reached a.1 a.2;
      grows = grows_more _ _ _ _ c.windows.invariant.grows a.2;
    }

pub returns-in-None-clause-applies : goal.returns-in-None-clause-applies
returns-in-None-clause-applies c =
    let a = rw c.in-None.is at c.in_ok-behind.ensures.applies in
    (reached_end _ _ _ _ _ c.windows.invariant.reached a.0 ∙ ap (λ t. going t c.windows.rest.now) (sym a.1), c.windows.invariant.reached.front)
