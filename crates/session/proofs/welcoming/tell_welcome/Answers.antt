use Rattle.std.proofs.lemmas.Result.{err_from_is_err_and}
use Rattle.wire_replies.proofs.Parts.{part_none}
use Rattle.session.proofs.welcoming.tell_welcome.Goals as goal

pub returns-in_err-info : goal.returns-in_err-info
returns-in_err-info g c =
    let p = err_from_is_err_and c.from_residual.result c.from_residual.ensures.1 in
    rw (p.1) (c.repos_info.ensures.0, part_none (g.S.ReplySink.writes c.args.out.now c.args.out.now) _ (g.met.S.ReplySink.nothing c.args.out.now))
