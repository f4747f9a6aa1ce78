use Rattle.std.proofs.{Common.{codes, refl}, lemmas.Result.err_from_is_err_and}
use Rattle.items.specs.{Print.printed, Values.{number, string}}
use Rattle.svnpath.specs.Texts.{path_text}
use Rattle.wire_replies.proofs.Row.{body_unwritten, head_unwritten, tail_written}
use Rattle.wire_replies.proofs.file_revisions.say_place.Goals as goal

pub returns-in_err-write_part : goal.returns-in_err-write_part
returns-in_err-write_part g c =
    let p = err_from_is_err_and c.from_residual.result c.from_residual.ensures.1 in
    rw (p.1) (head_unwritten g.S.ReplySink.writes g.met.S.ReplySink.more _ (codes "( ") (printed (string (path_text c.args.path.now)))
    (printed (number c.args.revision)) refl _ _ c.in_err-write_part.ensures)

pub returns-in_err-say_item : goal.returns-in_err-say_item
returns-in_err-say_item g c =
    let p = err_from_is_err_and c.from_residual-in_err-say_item.result c.from_residual-in_err-say_item.ensures.1 in
    rw (p.1) (body_unwritten g.S.ReplySink.writes g.met.S.ReplySink.more _ (codes "( ") (printed (string (path_text c.args.path.now)))
    (printed (number c.args.revision)) refl _ _ _ c.in_ok-write_part.ensures (c.in_err-say_item.ensures _ c.path_item.ensures))

pub returns : goal.returns
returns g c =
    tail_written g.S.ReplySink.writes g.met.S.ReplySink.more _ (codes "( ") (printed (string (path_text c.args.path.now)))
    (printed (number c.args.revision)) refl c.say_item-2.result _ _ _ _ c.in_ok-write_part.ensures
    (c.in_ok-say_item.ensures _ c.path_item.ensures) (c.say_item-2.ensures _ c.number_item.ensures)
