use Rattle.access.specs.Points.{content_of}
use Rattle.machine.specs.Hearing.Input.{Broken}
use Rattle.session.specs.Knowing.{StepIfKnown}
use Rattle.session_replies.proofs.Steps.{said, unparted}
use Rattle.session.proofs.{Answered.{broken_answer, broken_nothing, step_broken}, Known.broken_is_known}
use Rattle.session.proofs.serve.serve.Goals as goal

pub returns-in-Whole : goal.returns-in-Whole
returns-in-Whole g c = rw c.in-Whole.is c.serve_item.ensures

pub returns-in-Broken : goal.returns-in-Broken
returns-in-Broken g c =
    let s = c.args.options.now in
    let env = c.args.turn.now.env in
    let p = g.A.RepoAccess.point c.args.access.now in
    let known = g.S.Texts.is_honest c.serve_broken.new.turn.out in
    let step = StepIfKnown known s env c.args.phase Broken in
    let a = broken_answer env c.args.phase in
    let stays = g.met.A.RepoAccess.stays p in
    let is = broken_is_known known s env p.halted (content_of p) c.args.phase a (step_broken p.halted s env (content_of p) c.args.phase) in
    let nothing = broken_nothing env c.args.phase in
    rw c.in-Broken.is (unparted _ _ _ _ _ _ _ _ (said g.A.RepoAccess.rules step p p a stays is nothing _ c.serve_broken.result _ c.serve_broken.ensures))
