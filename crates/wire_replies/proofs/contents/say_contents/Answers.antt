use Rattle.std.proofs.Common.{ap}
use Rattle.wire_replies.specs.Replies.{contents}
use Rattle.wire_replies.proofs.Given.{said_given}
use Rattle.wire_replies.proofs.contents.say_contents.Goals as goal

pub returns : goal.returns
returns g c =
    said_given g.S.Texts.is_honest g.S.ReplySink.writes g.met.S.ReplySink.kept g.met.S.ReplySink.given g.met.S.ReplySink.more c.say_held-said.result _ _ _
    (contents c.in_ok-loaded.loaded) (contents c.args.text.now) (g.met.S.ReplySink.silent _ _ c.in_ok-loaded.ensures.reads)
    (λ known. ap contents (c.in_ok-loaded.ensures.found known)) c.say_held-said.ensures
