use Rattle.std.proofs.{Common.{codes, refl}, lemmas.Result.err_from_is_err_and}
use Rattle.items.specs.Print.{row_printed}
use Rattle.wire_replies.specs.Replies.{property_trees}
use Rattle.wire_replies.proofs.Row.{body_unwritten, head_unwritten, tail_written}
use Rattle.wire_replies.proofs.properties.say_property_list.Goals as goal

pub returns-in_err-write_part : goal.returns-in_err-write_part
returns-in_err-write_part g c =
    let p = err_from_is_err_and c.from_residual.result c.from_residual.ensures.1 in
    rw (p.1) (head_unwritten g.S.ReplySink.writes g.met.S.ReplySink.more _ (codes "( ") (row_printed (property_trees c.args.properties.now)) (codes ") ")
    refl _ _ c.in_err-write_part.ensures)

pub returns-in_err-say_each_property : goal.returns-in_err-say_each_property
returns-in_err-say_each_property g c =
    let p = err_from_is_err_and c.from_residual-in_err-say_each_property.result c.from_residual-in_err-say_each_property.ensures.1 in
    rw (p.1) (body_unwritten g.S.ReplySink.writes g.met.S.ReplySink.more _ (codes "( ") (row_printed (property_trees c.args.properties.now)) (codes ") ")
    refl _ _ _ c.in_ok-write_part.ensures c.in_err-say_each_property.ensures)

pub returns : goal.returns
returns g c =
    tail_written g.S.ReplySink.writes g.met.S.ReplySink.more _ (codes "( ") (row_printed (property_trees c.args.properties.now)) (codes ") ")
    refl c.write_part-2.result _ _ _ _ c.in_ok-write_part.ensures c.in_ok-say_each_property.ensures c.write_part-2.ensures
