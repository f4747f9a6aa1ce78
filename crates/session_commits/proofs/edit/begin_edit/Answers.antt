use Rattle.session_commits.proofs.edit.begin_edit.Goals as goal

pub returns-in-Ok-new_editor : goal.returns-in-Ok-new_editor
returns-in-Ok-new_editor g c = rw c.in-Ok.ensures (rw c.in-Ok-new_editor.ensures at c.open_edit.ensures)
