use Rattle.std.proofs.Common.{ℕ, List, ◌≡◌, ◌∙◌, subst}
use Rattle.std.specs.Prelude.{IfOk}
use Rattle.wire_replies.specs.Sinks.{Writes}
use Rattle.wire_replies.proofs.histories.say_bytes.Goals as goal

pub returns : goal.returns
returns g c part is =
    subst (λ (bytes : List ℕ). Writes c.write_part.result (g.S.ReplySink.writes c.args.out.now c.write_part.new.self) bytes)
    (c.as_slice.ensures.value ∙ subst (λ r. IfOk r (λ bytes. bytes.items ≡ part)) c.in_ok-bytes.was is)
    c.write_part.ensures
