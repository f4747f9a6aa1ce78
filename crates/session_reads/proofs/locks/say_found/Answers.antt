use Rattle.std.proofs.Common.{[], ◌∷◌, ◌∙◌, ap, map, subst}
use Rattle.std.specs.Map.Iter.{deref_pair}
use Rattle.repo_api.specs.Locking.{LockList}
use Rattle.wire_replies.specs.Sinks.{Says}
use Rattle.wire_replies.specs.declared.reply.Reply.TheVariants as replies
use Rattle.session_reads.proofs.locks.say_found.Goals as goal

pub returns : goal.returns
returns g c =
    subst (λ (ls : LockList). Says c.say_locks.result (g.S.ReplySink.writes c.args.out.now c.say_locks.new.out) (replies.Locks ls ∷ []))
    (ap (map deref_pair) c.as_slice.ensures.value ∙ c.in_ok-found.ensures) c.say_locks.ensures
