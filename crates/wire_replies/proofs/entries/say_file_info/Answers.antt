use Rattle.std.proofs.{Common.codes, lemmas.Result.err_from_is_err_and}
use Rattle.items.specs.{Print.printed, Values.list}
use Rattle.wire_replies.specs.{Parts.file_head, Replies.property_trees}
use Rattle.wire_replies.proofs.{Frames.file_printed, Row.{body_unwritten, head_unwritten, tail_written}}
use Rattle.wire_replies.proofs.entries.say_file_info.Goals as goal

pub returns-in_err-say_file_head : goal.returns-in_err-say_file_head
returns-in_err-say_file_head g c =
    let p = err_from_is_err_and c.from_residual.result c.from_residual.ensures.1 in
    let info = c.args.info.now in
    rw (p.1) (head_unwritten g.S.ReplySink.writes g.met.S.ReplySink.more _ (file_head info.digest info.revision) (printed (list (property_trees info.properties)))
    (codes ") ) ") (file_printed info) _ _ c.in_err-say_file_head.ensures)

pub returns-in_err-say_property_list : goal.returns-in_err-say_property_list
returns-in_err-say_property_list g c =
    let p = err_from_is_err_and c.from_residual-in_err-say_property_list.result c.from_residual-in_err-say_property_list.ensures.1 in
    let info = c.args.info.now in
    rw (p.1) (body_unwritten g.S.ReplySink.writes g.met.S.ReplySink.more _ (file_head info.digest info.revision) (printed (list (property_trees info.properties)))
    (codes ") ) ") (file_printed info) _ _ _ c.in_ok-say_file_head.ensures c.in_err-say_property_list.ensures)

pub returns : goal.returns
returns g c =
    let info = c.args.info.now in
    tail_written g.S.ReplySink.writes g.met.S.ReplySink.more _ (file_head info.digest info.revision) (printed (list (property_trees info.properties)))
    (codes ") ) ") (file_printed info) c.write_part.result _ _ _ _ c.in_ok-say_file_head.ensures c.in_ok-say_property_list.ensures c.write_part.ensures
