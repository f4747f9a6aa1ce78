use Rattle.std.proofs.Common.{ℕ, List, subst, ◌∙◌}
use Rattle.wire_replies.specs.Sinks.{Writes}
use Rattle.wire_replies.proofs.Row.{made_printed}
use Rattle.wire_replies.proofs.saying.say_item.Goals as goal

pub returns : goal.returns
returns g c item is =
    subst (λ (bytes : List ℕ). Writes c.write_part.result (g.S.ReplySink.writes c.args.out.now c.write_part.new.self) bytes)
    (c.as_slice.ensures.value ∙ made_printed c.args.made _ item is (rw c.new-bytes.ensures.items at c.in_ok-write_made.ensures.ok))
    c.write_part.ensures
