use Rattle.repo_api.specs.Kinds.{properties_at}
use Rattle.wire_replies.specs.declared.reply.Reply.TheVariants as replies
use Rattle.session_reads.proofs.reading.say_rev_proplist.Goals as goal

pub returns-in-Some : goal.returns-in-Some
returns-in-Some g c =
    rw (c.in-Some.ensures (λ m. replies.Properties (properties_at (g.R.Repository.content c.args.view.now) m))) c.say_properties_at.ensures

pub returns-in-None : goal.returns-in-None
returns-in-None g c =
    rw (c.in-None.ensures (λ m. replies.Properties (properties_at (g.R.Repository.content c.args.view.now) m))) c.tell_refusal.ensures
