use Rattle.std.proofs.{Common.{◌∙◌, sym}, lemmas.Result.err_from_is_err_and}
use Rattle.wire_replies.proofs.Parts.{part_none}
use Rattle.session_reads.proofs.files.say_file.Goals as goal

pub returns-in_err-place : goal.returns-in_err-place
returns-in_err-place g c =
    let p = err_from_is_err_and c.from_residual.result c.from_residual.ensures.1 in
    rw (p.1) (part_none _ _ (g.met.S.ReplySink.nothing _))

pub returns-in-Ok : goal.returns-in-Ok
returns-in-Ok g c = rw (sym c.in_ok-place.ensures ∙ c.in-Ok.is) c.say_file_at.ensures
