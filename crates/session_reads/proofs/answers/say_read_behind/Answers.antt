use Rattle.std.proofs.{Common.{◌++◌, subst}, lemmas.Result.err_from_is_err_and}
use Rattle.repo_api.specs.States.{RepoState}
use Rattle.wire_replies.specs.Sinks.{Says}
use Rattle.wire_replies.proofs.Parts.{part_none, part_first, said_behind}
use Rattle.access.specs.Points.{content_of}
use Rattle.machine.specs.Commands.{read_replies}
use Rattle.session_replies.specs.Telling.{told_before}
use Rattle.session_reads.proofs.answers.say_read_behind.Goals as goal

pub returns-in_err-view-clause-said : goal.returns-in_err-view-clause-said
returns-in_err-view-clause-said g c =
    let p = err_from_is_err_and c.from_residual.result c.from_residual.ensures.1 in
    rw (p.1) (c.look.ensures.later, part_none _ _ (g.met.S.ReplySink.nothing _))

pub returns-in_err-say_preface-clause-said : goal.returns-in_err-say_preface-clause-said
returns-in_err-say_preface-clause-said g c =
    let p = err_from_is_err_and c.from_residual-in_err-say_preface.result c.from_residual-in_err-say_preface.ensures.1 in
    rw (p.1) (
      c.look.ensures.later,
      part_first _ (told_before c.args.preface)
          (read_replies c.args.client.now c.args.command.now (content_of (g.A.RepoAccess.point c.look.new.self))) c.in_err-say_preface.ensures,
    )

pub returns-clause-said : goal.returns-clause-said
returns-clause-said g c =
    let told = read_replies c.args.client.now c.args.command.now in (
      c.look.ensures.later,
      subst (λ (x : RepoState). Says c.say_read.result (g.S.ReplySink.writes c.args.turn.now.out c.say_read.new.out) (told_before c.args.preface ++ told x))
          c.in_ok-view.ensures.view
          (said_behind _ g.met.S.ReplySink.more c.say_read.result _ _ _ (told_before c.args.preface) (told (g.R.Repository.content c.in_ok-view.view))
          c.in_ok-say_preface.ensures c.say_read.ensures),
    )
