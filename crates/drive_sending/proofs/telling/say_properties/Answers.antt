use Rattle.std.proofs.Common.{map, subst}
use Rattle.drive_visits.specs.Visits.{kind_if}
use Rattle.drive_sending.specs.{Commands.property_command, Driving.command_bytes}
use Rattle.wire_replies.specs.Sinks.{Writes}
use Rattle.drive_sending.proofs.telling.say_properties.Goals as goal

pub returns : goal.returns
returns g c =
    subst (λ xs. Writes c.say_each.result (g.S.ReplySink.writes c.args.out.now c.say_each.new.out)
    (command_bytes (map (property_command (kind_if c.args.is_directory) c.args.token.now) xs))) c.as_slice.ensures c.say_each.ensures
