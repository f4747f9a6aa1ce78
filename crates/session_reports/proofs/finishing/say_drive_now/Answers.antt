use Rattle.std.proofs.Common.{inl, subst, sym}
use Rattle.repo_api.specs.{Soundness.AreTrees, States.RepoState}
use Rattle.session_reports.specs.Finishing.{EndsReport}
use Rattle.session_reports.proofs.finishing.say_drive_now.Goals as goal

pub say_end-requires : goal.say_end-requires
say_end-requires g c = record {
  trees = subst (λ (x : RepoState). AreTrees x.revisions) (sym c.in-Ok.ensures.view)
      (g.met.A.RepoAccess.sound _ _ c.look.ensures.later c.requires.trees).0;
}

pub returns-in-Ok : goal.returns-in-Ok
returns-in-Ok g c =
    let writes = g.S.ReplySink.writes c.args.out.now c.say_end.new.out in
    (c.look.ensures.later, subst (λ (x : RepoState). EndsReport c.say_end.result x c.args.report.now writes) c.in-Ok.ensures.view c.say_end.ensures)

pub returns-in-Err : goal.returns-in-Err
returns-in-Err g c = (c.look.ensures.later, inl (g.met.S.ReplySink.nothing _))
