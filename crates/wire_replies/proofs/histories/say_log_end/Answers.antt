use Rattle.std.proofs.Common.{subst}
use Rattle.wire_replies.specs.{Parts.log_end, Sinks.Writes, declared.histories.LogFacts.LogFacts}
use Rattle.wire_replies.proofs.Row.{if_told}
use Rattle.wire_replies.proofs.histories.say_log_end.Goals as goal

pub returns-in-Ok : goal.returns-in-Ok
returns-in-Ok g c facts is =
    subst (λ (told : LogFacts). Writes c.say_bytes-said.result (g.S.ReplySink.writes c.args.out.now c.say_bytes-said.new.out) (log_end told))
    (if_told c.args.made c.in-Ok.facts facts c.in-Ok.is is) (c.say_bytes-said.ensures _ c.log_end.ensures)
