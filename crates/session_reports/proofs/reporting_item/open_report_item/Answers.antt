use Rattle.std.proofs.Common.{refl, inl}
use Rattle.items.specs.View.{value_of}
use Rattle.wire_reports.specs.Reporting.{report_command}
use Rattle.reporter.specs.Reporting.Drawn.{GoesOn, Malformed}
use Rattle.machine.proofs.Refusing.{bad, unknown}
use Rattle.session_replies.proofs.Steps.{stepped, only_says, told_all}
use Rattle.session_reports.proofs.reporting_item.open_report_item.Goals as goal

pub returns-in-Ok : goal.returns-in-Ok
returns-in-Ok g c = rw c.in-Ok.ensures c.take_command-phase.ensures

pub returns-in-Err-UnknownName : goal.returns-in-Err-UnknownName
returns-in-Err-UnknownName g c =
    rw (unknown (report_command (value_of c.args.item.now)) (rw c.in-Err-UnknownName.field-0-is at c.in-Err-UnknownName.ensures))
    (told_all (only_says (g.met.A.RepoAccess.stays _) (GoesOn _, refl, refl)) _ _ _
    (record { phase_after = c.refuse_report.ensures; env_after = refl; written = g.met.S.ReplySink.nothing _ }))

pub returns-in-Err-BadParameters : goal.returns-in-Err-BadParameters
returns-in-Err-BadParameters g c =
    rw (bad (report_command (value_of c.args.item.now)) (rw c.in-Err-BadParameters.field-0-is at c.in-Err-BadParameters.ensures))
    (stepped (only_says (g.met.A.RepoAccess.stays _) (Malformed, refl, refl)) _ c.end_malformed.result _ c.end_malformed.ensures)

pub returns-in-Err-NoMemory : goal.returns-in-Err-NoMemory
returns-in-Err-NoMemory g c =
    inl (g.met.A.RepoAccess.stays _, g.met.S.ReplySink.nothing c.args.turn.now.out)
