use Rattle.std.proofs.{Common.{rules, arith, ◌≡◌, ◌+◌, ◌≤◌}, lemmas.Result.err_from_is_err_and}
use Rattle.wire_replies.proofs.Telling.{piece_count, piece_written, piece_failed, end_said}
use Rattle.wire_replies.proofs.contents.say_held.Goals as goal

pub loop-n-preserved : goal.loop-n-preserved
loop-n-preserved g c =
    piece_written g.S.ReplySink.writes g.met.S.ReplySink.more c.args.out.now c.loop-n.out c.say_piece.new.out c.args.text.now c.loop-n.n
    c.loop-n.invariant c.in_ok-say_piece.ensures

pub returns-in_err-say_piece : goal.returns-in_err-say_piece
returns-in_err-say_piece g c =
    let p = err_from_is_err_and c.from_residual.result c.from_residual.ensures.1 in
    let within : c.loop-n.n + 1 ≤ piece_count c.args.text.now = search (rules, arith) in
    rw (p.1) (piece_failed g.S.ReplySink.writes g.met.S.ReplySink.more c.args.out.now c.loop-n.out c.say_piece.new.out c.args.text.now c.loop-n.n
    within c.loop-n.invariant c.in_err-say_piece.ensures)

pub returns : goal.returns
returns g c =
    let all : c.loop-n.n ≡ piece_count c.args.text.now = search (rules, arith) in
    end_said g.S.ReplySink.writes g.met.S.ReplySink.more c.say_last.result c.args.out.now c.loop-n.out c.say_last.new.out c.args.text.now c.loop-n.n
    all c.loop-n.invariant c.say_last.ensures
