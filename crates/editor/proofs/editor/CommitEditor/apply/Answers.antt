use Rattle.std.proofs.Common.{◌∙◌}
use Rattle.editor.proofs.editor.CommitEditor.apply.Goals as goal

pub returns-in-Err-clause-err : goal.returns-in-Err-clause-err
returns-in-Err-clause-err g c =
    let kept = rw c.in-Err-Refused.field-0-is at c.in-Err-Refused.ensures.path in
    kept.1 c.in-Err.ensures.whole ∙ c.take_room.ensures
