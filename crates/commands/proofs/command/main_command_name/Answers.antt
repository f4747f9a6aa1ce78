use Rattle.std.proofs.Common.{sym, ap, ◌∙◌}
use Rattle.commands.specs.Commands.{known_or_of_today}
use Rattle.commands.proofs.command.main_command_name.Goals as goal

pub returns-in-Some : goal.returns-in-Some
returns-in-Some c =
    ap (known_or_of_today c.args.is_of_today c.args.name.now) (sym c.in-Some.is ∙ c.named.ensures)
