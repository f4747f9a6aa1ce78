use Rattle.editor.proofs.Steps.{opened_edit, closed_again}
use Rattle.editor.proofs.editor.CommitEditor.put_new.Goals as goal

pub returns-in-Ok-clause-ok : goal.returns-in-Ok-clause-ok
returns-in-Ok-clause-ok g c =
    opened_edit (g.R.Repository.content c.args.repository.now) c.args.self.now c.open_new.new.self c.edit.new.self c.args.op c.args.token c.args.opened
    c.in_ok-token.ensures.ok c.in-Ok.ensures.ok

pub returns-clause-err : goal.returns-clause-err
returns-clause-err g c =
    closed_again c.args.self.now c.open_new.new.self c.edit.new.self c.close.new.self c.args.token c.in_ok-token.token c.args.opened
    c.requires.is_new c.in_ok-token.ensures.ok c.in-Err.ensures.err c.in_ok-token.ensures.token c.close.ensures
