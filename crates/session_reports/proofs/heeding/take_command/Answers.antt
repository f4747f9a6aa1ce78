use Rattle.std.proofs.Common.{refl}
use Rattle.reporter.specs.Reporting.Drawn.{GoesOn, GivenUp}
use Rattle.session_reports.proofs.Drawing.{untold}
use Rattle.session_replies.proofs.Steps.{only_says, told_all}
use Rattle.session_reports.proofs.heeding.take_command.Goals as goal

pub returns-in-SetPath : goal.returns-in-SetPath
returns-in-SetPath g c =
    rw c.in-SetPath.is (untold _ _ _ _ c.args.turn.now.env _ _ c.set_path.ensures.0 (GoesOn _, refl, refl) (g.met.S.ReplySink.nothing _) c.set_path.result c.set_path.ensures.1)

pub returns-in-LinkPath : goal.returns-in-LinkPath
returns-in-LinkPath g c =
    rw c.in-LinkPath.is (untold _ _ _ _ c.args.turn.now.env _ _ c.set_path-in-LinkPath.ensures.0 (GoesOn _, refl, refl) (g.met.S.ReplySink.nothing _) c.set_path-in-LinkPath.result c.set_path-in-LinkPath.ensures.1)

pub returns-in-DeletePath : goal.returns-in-DeletePath
returns-in-DeletePath g c =
    rw c.in-DeletePath.is (untold _ _ _ _ c.args.turn.now.env _ _ (g.met.A.RepoAccess.stays _) (GoesOn _, refl, refl) (g.met.S.ReplySink.nothing _) c.delete_path.result c.delete_path.ensures)

pub returns-in-FinishReport : goal.returns-in-FinishReport
returns-in-FinishReport g c = rw c.in-FinishReport.is c.finish.ensures

pub returns-in-AbortReport : goal.returns-in-AbortReport
returns-in-AbortReport g c =
    rw c.in-AbortReport.is (told_all (only_says (g.met.A.RepoAccess.stays _) (GivenUp, refl, refl)) _ _ _
    (record { phase_after = c.abort.ensures; env_after = refl; written = g.met.S.ReplySink.nothing _ }))
