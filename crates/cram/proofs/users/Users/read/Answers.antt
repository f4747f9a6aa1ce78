use Rattle.std.proofs.lemmas.Bool.Decides.{when_true}
use Rattle.cram.proofs.Reading.{read_none, read_more}
use Rattle.cram.proofs.users.Users.read.Goals as goal

pub loop-rest-init : goal.loop-rest-init
loop-rest-init c = read_none _ _ _ c.new-draft.ensures

pub loop-rest-preserved : goal.loop-rest-preserved
loop-rest-preserved c =
    let h = c.loop-rest.invariant in
    let kept = when_true _ _ c.if-not-branch.false (c.in_ok-take_line.ensures h.before h.said) in
    read_more _ _ _ _ _ _ _ _ _ _ h c.split_line.ensures.lines c.parse_line.ensures c.split_line.ensures.shorter kept.0 kept.1
