use Rattle.std.proofs.Common.{ap, ◌∙◌}
use Rattle.edit_rules.specs.{Tokens.with_token, declared.opened.Opened.Opened}
use Rattle.editor.proofs.Steps.{opens}
use Rattle.editor.proofs.editor.CommitEditor.open_root.Goals as goal

pub returns : goal.returns
returns g c =
    let opened = opens (g.R.Repository.content c.args.repository.now) _ c.args.self.now c.args.revision c.args.token.now _ _ _ _ c.self.view_is
    c.in_ok-token.ensures.cases c.in_ok-path.ensures.cases c.in_ok-txn.ensures
    (c.in_ok-insert.ensures.ok ∙ ap (λ (opened : Opened). with_token c.self.inside.tokens c.in_ok-token.token opened) c.opened_directory.ensures) in
    (c.in_ok-judge_root.ensures, opened, tt)
