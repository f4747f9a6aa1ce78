use Rattle.std.proofs.Common.{subst}
use Rattle.items.specs.Print.{printed}
use Rattle.wire_replies.specs.{Replies.change_tree, Sinks.Writes, declared.histories.LoggedChange.LoggedChange}
use Rattle.wire_replies.proofs.Row.{if_told}
use Rattle.wire_replies.proofs.histories.say_change.Goals as goal

pub returns-in-Ok : goal.returns-in-Ok
returns-in-Ok g c logged is =
    subst (λ (told : LoggedChange). Writes c.say_item-said.result (g.S.ReplySink.writes c.args.out.now c.say_item-said.new.out) (printed (change_tree told)))
    (if_told c.args.made c.in-Ok.logged logged c.in-Ok.is is) (c.say_item-said.ensures _ c.change_item.ensures)
