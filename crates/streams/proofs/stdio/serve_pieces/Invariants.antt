use Rattle.std.proofs.Common.{◌≡◌, length}
use Rattle.streams.specs.Stream.{HearsPieces, scene}
use Rattle.streams.proofs.stdio.serve_pieces.Given as goal

abbrev pub invariant-loop : goal.invariant-loop
invariant-loop g l =
    (length l.buffer ≡ 65536)
    × HearsPieces g.E.EnvSource.gives l.number
    (scene l.fn.hub (g.R.Read.remaining l.fn.input) (g.W.Write.contents l.fn.output) l.fn.envs)
    (scene l.hub (g.R.Read.remaining l.input) (g.W.Write.contents l.output) l.envs)
