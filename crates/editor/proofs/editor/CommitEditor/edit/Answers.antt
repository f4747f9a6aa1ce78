use Rattle.std.proofs.Common.{ap}
use Rattle.edit_rules.specs.Edits.{EditState}
use Rattle.editor.proofs.Steps.{on_ok, made}
use Rattle.editor.proofs.editor.CommitEditor.edit.Goals as goal

pub returns-clause-ok : goal.returns-clause-ok
returns-clause-ok g c =
    on_ok _ c.edit.result
    (λ e. made (g.R.Repository.content c.args.repository.now) _ c.args.self.now c.args.op _ _ _ _ c.self.view_is c.in-Some.is e (ap (λ (s : EditState). s.tokens) c.self.view_is))
    c.edit.ensures
