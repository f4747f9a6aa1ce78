use Rattle.std.proofs.Common.{Some, ap, sym, subst, ◌≡◌, ◌∙◌}
use Rattle.svnpath.specs.Paths.{PathValue}
use Rattle.repo_api.specs.{declared.entry.NodeKind.NodeKind, declared.edit.EditOp.EditOp}
use Rattle.edit_rules.specs.{Editor.{added_opened, copy_edit}, Edits.{EditState, standing}, Soundness.IsRightIn, Tokens.{others_closed_beneath, with_token}}
use Rattle.editor.proofs.Steps.{reopened, path_of_added}
use Rattle.editor.proofs.editor.CommitEditor.add_copy.Goals as goal

pub returns : goal.returns
returns g c =
    let old : EditState = c.args.self.now in
    let p : PathValue = c.args.path.now in
    let h = c.in_ok-put_new.ensures.ok in
    let opened : c.added_opened.result ≡ added_opened c.args.is_file p (Some c.args.source.now) = c.added_opened.ensures ∙ ap (λ (q : PathValue). added_opened c.args.is_file q (Some c.args.source.now)) c.in_ok-opened.ensures.cases in
    let copied = reopened (g.R.Repository.content c.args.repository.now) old c.put_new.new.self _ _ (copy_edit (standing old.txn p) p c.args.source.now) _ _ _ h c.self.view_is
    (c.in_ok-op.ensures ∙ ap (λ (kind : NodeKind). copy_edit kind p c.args.source.now) c.standing.ensures)
    (c.close_others_beneath.ensures ∙ ap (λ (e : EditState). others_closed_beneath e.tokens p c.args.entry.now.token) (c.self.view_is ∙ h.is)
    ∙ (λ i. others_closed_beneath (with_token old.tokens (c.in_ok-token.ensures.cases i) (opened i)) (sym (path_of_added c.args.is_file p c.args.source.now) i) c.args.entry.now.token)) in
    (c.in_ok-judge_copy.ensures, copied, tt)

pub put_new-requires-clause-right : goal.put_new-requires-clause-right
put_new-requires-clause-right g c =
    let e : EditState = c.args.self.now in
    let p : PathValue = c.args.path.now in
    let is_op : c.in_ok-op.op ≡ copy_edit (standing e.txn p) p c.args.source.now = c.in_ok-op.ensures ∙ ap (λ (kind : NodeKind). copy_edit kind p c.args.source.now) c.standing.ensures in
    subst (λ (op : EditOp). IsRightIn (g.R.Repository.content c.args.repository.now) e.txn op) (sym is_op)
    (c.edits_are_right.ensures.adds (g.R.Repository.content c.args.repository.now) e c.args.is_file c.args.entry.now p (Some c.args.source.now) c.requires.sound.1 c.requires.named c.in_ok-judge_copy.ensures)
