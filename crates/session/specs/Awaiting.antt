-- What a session waits for.
use Rattle.machine.specs.declared.phase.Phase.{Phase}
use Rattle.machine.specs.declared.phase.Phase.TheVariants.{Greeted, LoggingIn, Challenged, Serving, Editing, Skipping, Reporting, Driven, Ended}
use Rattle.guests.specs.{declared.awaited.Awaited.Awaited, declared.awaited.Awaited.TheVariants.{Login, Command, Report, Edit, Nothing}}

-- what is awaited of a client in a phase
abbrev pub awaited : {E G : Type 0} → Phase E G → Awaited
awaited Greeted = Login
awaited (LoggingIn login) = Login
awaited (Challenged pending) = Login
awaited (Serving client) = Command
awaited (Editing edit) = Edit
awaited (Skipping client) = Edit
awaited (Reporting reporting) = Report
awaited (Driven client) = Report
awaited Ended = Nothing
