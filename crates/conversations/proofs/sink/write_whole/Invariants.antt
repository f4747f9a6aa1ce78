use Rattle.std.proofs.Common.{◌≡◌}
use Rattle.std.specs.Io.KnownBytes.{Appends}
use Rattle.wire_replies.specs.Sinks.{WritesPart}
use Rattle.conversations.proofs.sink.write_whole.Given as goal

abbrev pub invariant-loop : goal.invariant-loop
invariant-loop g l =
    (sent : WritesPart (Appends (g.W.Write.contents l.fn.output) (g.W.Write.contents l.output)) l.fn.bytes)
    × (l.rest ≡ sent.rest)
