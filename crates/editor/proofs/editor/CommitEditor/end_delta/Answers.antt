use Rattle.std.proofs.Common.{sym, subst}
use Rattle.edit_rules.specs.{Edits.EditState, Soundness.IsRightIn, declared.opened.DeltaState.TheVariants.Reading}
use Rattle.editor.proofs.TextSteps.{ends}
use Rattle.editor.proofs.editor.CommitEditor.end_delta.Goals as goal

pub edit-requires-clause-right : goal.edit-requires-clause-right
edit-requires-clause-right g c =
    subst (λ (e : EditState). IsRightIn (g.R.Repository.content c.args.repository.now) e.txn c.in_ok-op.op) (sym c.in_ok-op.ensures.same)
    (c.edits_are_right.ensures.sets_texts (g.R.Repository.content c.args.repository.now) c.args.self.now c.args.token.now c.in_ok-op.op c.requires.1 c.in_ok-op.ensures.op.1)

pub returns : goal.returns
returns g c =
    let o = c.in_ok-op.ensures.op.1 in
    let ended = ends (g.R.Repository.content c.args.repository.now) c.args.self.now c.edit.new.self _ c.in_ok-op.op c.args.token.now o.0 o.1 o.3.0 _ o.2 o.3.1 o.3.2
    (rw c.in_ok-op.ensures.same at c.in_ok-edit.ensures.ok) c.self.view_is (c.set_delta.ensures o.0 (Reading o.1)) in
    (c.in_ok-op.ensures.op.0, ended, tt)
