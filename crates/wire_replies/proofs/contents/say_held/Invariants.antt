use Rattle.std.proofs.Common.{◌*◌, map}
use Rattle.std.specs.List.{range_with_len}
use Rattle.wire_replies.specs.{Pieces.piece_from, Replies.print, declared.contents.TheConstants.PIECE, declared.reply.Reply.TheVariants.Piece}
use Rattle.wire_replies.proofs.contents.say_held.Given as goal

abbrev pub invariant-loop-n : goal.invariant-loop-n
invariant-loop-n g l = g.S.ReplySink.writes l.fn.out l.out (print (map Piece (map (λ n. piece_from l.text (n * PIECE)) (range_with_len 0 l.n))))
