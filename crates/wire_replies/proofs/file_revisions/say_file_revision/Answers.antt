use Rattle.std.proofs.{Common.{◌++◌, codes}, lemmas.Result.err_from_is_err_and}
use Rattle.items.specs.{Print.printed, Values.list}
use Rattle.wire_replies.specs.{Parts.file_revision_place, Replies.{property_change_trees, property_trees}}
use Rattle.wire_replies.proofs.{Frames.file_revision_printed, Row.{body_unwritten, head_unwritten, tail_written}}
use Rattle.wire_replies.proofs.file_revisions.say_file_revision.Goals as goal

pub returns-in_err-say_before_changes : goal.returns-in_err-say_before_changes
returns-in_err-say_before_changes g c =
    let p = err_from_is_err_and c.from_residual.result c.from_residual.ensures.1 in
    let told = c.args.told.now in
    rw (p.1) (head_unwritten g.S.ReplySink.writes g.met.S.ReplySink.more _ (file_revision_place told.path told.revision ++ printed (list (property_trees told.properties)))
    (printed (list (property_change_trees told.changes))) (codes "false ) ") (file_revision_printed told) _ _ c.in_err-say_before_changes.ensures)

pub returns-in_err-say_changes : goal.returns-in_err-say_changes
returns-in_err-say_changes g c =
    let p = err_from_is_err_and c.from_residual-in_err-say_changes.result c.from_residual-in_err-say_changes.ensures.1 in
    let told = c.args.told.now in
    rw (p.1) (body_unwritten g.S.ReplySink.writes g.met.S.ReplySink.more _ (file_revision_place told.path told.revision ++ printed (list (property_trees told.properties)))
    (printed (list (property_change_trees told.changes))) (codes "false ) ") (file_revision_printed told) _ _ _ c.in_ok-say_before_changes.ensures
    c.in_err-say_changes.ensures)

pub returns : goal.returns
returns g c =
    let told = c.args.told.now in
    tail_written g.S.ReplySink.writes g.met.S.ReplySink.more _ (file_revision_place told.path told.revision ++ printed (list (property_trees told.properties)))
    (printed (list (property_change_trees told.changes))) (codes "false ) ") (file_revision_printed told) c.write_part.result _ _ _ _
    c.in_ok-say_before_changes.ensures c.in_ok-say_changes.ensures c.write_part.ensures
