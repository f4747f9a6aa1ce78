use Rattle.std.proofs.Common.{ℕ, List, subst}
use Rattle.items.specs.Print.{printed}
use Rattle.wire_replies.specs.{Replies.entry_tree, Sinks.Writes, declared.entries.NodeInfo.NodeInfo}
use Rattle.wire_replies.proofs.Row.{if_told}
use Rattle.wire_replies.proofs.entries.say_entry.Goals as goal

pub returns-in-Ok : goal.returns-in-Ok
returns-in-Ok g c entry is =
    subst (λ (e : List ℕ × NodeInfo). Writes c.say_item-said.result (g.S.ReplySink.writes c.args.out.now c.say_item-said.new.out) (printed (entry_tree e.0 e.1)))
    (if_told c.args.made (c.in-Ok.name, c.in-Ok.node) entry c.in-Ok.is is)
    (c.say_item-said.ensures _ (rw c.as_slice.ensures at c.entry_item.ensures))
