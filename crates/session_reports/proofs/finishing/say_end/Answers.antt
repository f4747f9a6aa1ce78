use Rattle.std.proofs.Common.{inr}
use Rattle.session_reports.proofs.Drawing.{undriven}
use Rattle.session_reports.proofs.finishing.say_end.Goals as goal

pub returns-in-Ok-say_drive : goal.returns-in-Ok-say_drive
returns-in-Ok-say_drive g c = (c.in-Ok.root, c.in-Ok.ensures, c.in-Ok-say_drive.ensures)

pub returns-in-Err-say_drive : goal.returns-in-Err-say_drive
returns-in-Err-say_drive g c = inr (c.in-Ok.root, c.in-Ok.ensures, c.in-Err-say_drive.ensures)

pub returns-in-Err : goal.returns-in-Err
returns-in-Err g c =
    undriven (g.R.Repository.content c.args.view.now) c.args.report.now (g.S.ReplySink.writes c.args.out.now c.args.out.now) c.in-Err.fault
    (g.met.S.ReplySink.nothing c.args.out.now) c.in-Err.ensures
