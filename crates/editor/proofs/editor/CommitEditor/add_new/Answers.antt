use Rattle.std.proofs.Common.{◌≡◌, ℕ, List, ap, sym, subst, ◌∙◌, None}
use Rattle.svnpath.specs.Paths.{PathValue}
use Rattle.edit_rules.specs.{Editor.added_edit, Edits.{EditState, standing}, Refusing.add_refusal, Soundness.IsRightIn, Tokens.opened_under}
use Rattle.repo_api.specs.declared.edit.EditOp.{EditOp}
use Rattle.editor.proofs.Steps.{placed_first}
use Rattle.editor.proofs.editor.CommitEditor.add_new.Goals as goal

pub put_new-requires-clause-is_new : goal.put_new-requires-clause-is_new
put_new-requires-clause-is_new g c =
    let place = placed_first c.args.self.now c.args.entry.now.parent c.args.entry.now.token c.args.path.now (add_refusal (standing c.args.self.now.txn c.args.path.now)) c.in_ok-judge_new.ensures in
    ap (λ (token : List ℕ). opened_under c.args.self.now.tokens token) c.in_ok-token.ensures.cases ∙ place.is_new

pub put_new-requires-clause-right : goal.put_new-requires-clause-right
put_new-requires-clause-right g c =
    let e : EditState = c.args.self.now in
    let is_op : c.new_edit.result ≡ added_edit c.args.is_file (standing e.txn c.args.path.now) c.args.path.now None =
    c.new_edit.ensures ∙ ap (λ (p : PathValue). added_edit c.args.is_file (standing e.txn p) p None) c.in_ok-added.ensures.cases in
    subst (λ (op : EditOp). IsRightIn (g.R.Repository.content c.args.repository.now) e.txn op) (sym is_op)
    (c.edits_are_right.ensures.adds (g.R.Repository.content c.args.repository.now) e c.args.is_file c.args.entry.now c.args.path.now None c.requires.sound.1 c.requires.named c.in_ok-judge_new.ensures)
