use Rattle.std.proofs.lemmas.Result.{err_from_is_err_and}
use Rattle.items.specs.{Print.printed, Values.list}
use Rattle.wire_replies.specs.{Parts.file_revision_place, Replies.property_trees}
use Rattle.wire_replies.proofs.Row.{first_part, written_behind}
use Rattle.wire_replies.proofs.file_revisions.say_before_changes.Goals as goal

pub returns-in_err-say_place : goal.returns-in_err-say_place
returns-in_err-say_place g c =
    let p = err_from_is_err_and c.from_residual.result c.from_residual.ensures.1 in
    let told = c.args.told.now in
    rw (p.1) (first_part _ (file_revision_place told.path told.revision) (printed (list (property_trees told.properties))) c.in_err-say_place.ensures)

pub returns : goal.returns
returns g c =
    let told = c.args.told.now in
    written_behind g.S.ReplySink.writes g.met.S.ReplySink.more c.say_property_list.result _ _ _ (file_revision_place told.path told.revision)
    (printed (list (property_trees told.properties))) c.in_ok-say_place.ensures c.say_property_list.ensures
