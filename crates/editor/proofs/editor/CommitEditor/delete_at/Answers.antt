use Rattle.std.proofs.Common.{ap, ◌∙◌}
use Rattle.repo_api.specs.declared.edit.EditOp.TheVariants as edits
use Rattle.edit_rules.specs.{Edits.EditState, Tokens.closed_beneath}
use Rattle.editor.proofs.Steps.{reopened}
use Rattle.editor.proofs.editor.CommitEditor.delete_at.Goals as goal

pub returns : goal.returns
returns g c =
    let p = c.args.path.now in
    let h = c.in_ok-edit.ensures.ok in
    let deleted = reopened (g.R.Repository.content c.args.repository.now) c.args.self.now c.edit.new.self _ _ (edits.Delete p) c.args.self.now.tokens _ _ h c.self.view_is (ap edits.Delete c.in_ok-deleted.ensures.cases)
    (c.close_beneath.ensures ∙ ap (λ (e : EditState). closed_beneath e.tokens p) (c.self.view_is ∙ h.is)) in
    (c.in_ok-judge_delete.ensures, deleted, tt)
