use Rattle.std.proofs.Common.{refl}
use Rattle.wire_replies.specs.declared.reply.Reply.TheVariants as replies
use Rattle.session_changes.proofs.locking.tell_lock.Goals as goal

pub returns : goal.returns
returns g c = rw c.without_token-turn.ensures at (c.tell.ensures (replies.Lock c.args.made.path c.args.made.lock) refl)
