use Rattle.std.proofs.{Common.codes, lemmas.Result.err_from_is_err_and}
use Rattle.items.specs.{Print.printed, Values.list}
use Rattle.wire_replies.specs.Replies.{property_trees}
use Rattle.wire_replies.proofs.{Frames.properties_printed, Row.{body_unwritten, head_unwritten, tail_written}}
use Rattle.wire_replies.proofs.properties.say_properties.Goals as goal

pub returns-in_err-write_part : goal.returns-in_err-write_part
returns-in_err-write_part g c =
    let p = err_from_is_err_and c.from_residual.result c.from_residual.ensures.1 in
    let all = c.args.properties.now in
    rw (p.1) (head_unwritten g.S.ReplySink.writes g.met.S.ReplySink.more _ (codes "( success ( ") (printed (list (property_trees all))) (codes ") ) ")
    (properties_printed all) _ _ c.in_err-write_part.ensures)

pub returns-in_err-say_property_list : goal.returns-in_err-say_property_list
returns-in_err-say_property_list g c =
    let p = err_from_is_err_and c.from_residual-in_err-say_property_list.result c.from_residual-in_err-say_property_list.ensures.1 in
    let all = c.args.properties.now in
    rw (p.1) (body_unwritten g.S.ReplySink.writes g.met.S.ReplySink.more _ (codes "( success ( ") (printed (list (property_trees all))) (codes ") ) ")
    (properties_printed all) _ _ _ c.in_ok-write_part.ensures c.in_err-say_property_list.ensures)

pub returns : goal.returns
returns g c =
    let all = c.args.properties.now in
    tail_written g.S.ReplySink.writes g.met.S.ReplySink.more _ (codes "( success ( ") (printed (list (property_trees all))) (codes ") ) ")
    (properties_printed all) c.write_part-2.result _ _ _ _ c.in_ok-write_part.ensures c.in_ok-say_property_list.ensures c.write_part-2.ensures
