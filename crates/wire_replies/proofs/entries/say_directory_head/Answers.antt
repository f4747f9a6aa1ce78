use Rattle.std.proofs.{Common.{◌++◌, codes, refl}, lemmas.Result.err_from_is_err_and}
use Rattle.items.specs.{Print.printed, Values.{list, number}}
use Rattle.wire_replies.specs.Replies.{property_trees}
use Rattle.wire_replies.proofs.Row.{body_unwritten, head_unwritten, tail_written}
use Rattle.wire_replies.proofs.entries.say_directory_head.Goals as goal

pub returns-in_err-say_revision_first : goal.returns-in_err-say_revision_first
returns-in_err-say_revision_first g c =
    let p = err_from_is_err_and c.from_residual.result c.from_residual.ensures.1 in
    rw (p.1) (head_unwritten g.S.ReplySink.writes g.met.S.ReplySink.more _ (codes "( success ( " ++ printed (number c.args.revision))
    (printed (list (property_trees c.args.properties.now))) (codes "( ") refl _ _ c.in_err-say_revision_first.ensures)

pub returns-in_err-say_property_list : goal.returns-in_err-say_property_list
returns-in_err-say_property_list g c =
    let p = err_from_is_err_and c.from_residual-in_err-say_property_list.result c.from_residual-in_err-say_property_list.ensures.1 in
    rw (p.1) (body_unwritten g.S.ReplySink.writes g.met.S.ReplySink.more _ (codes "( success ( " ++ printed (number c.args.revision))
    (printed (list (property_trees c.args.properties.now))) (codes "( ") refl _ _ _ c.in_ok-say_revision_first.ensures c.in_err-say_property_list.ensures)

pub returns : goal.returns
returns g c =
    tail_written g.S.ReplySink.writes g.met.S.ReplySink.more _ (codes "( success ( " ++ printed (number c.args.revision))
    (printed (list (property_trees c.args.properties.now))) (codes "( ") refl c.write_part.result _ _ _ _ c.in_ok-say_revision_first.ensures
    c.in_ok-say_property_list.ensures c.write_part.ensures
