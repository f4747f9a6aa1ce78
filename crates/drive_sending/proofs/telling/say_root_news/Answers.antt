use Rattle.drive_rules.specs.Steps.EntryKind.{DirectoryKind}
use Rattle.drive_sending.specs.{Commands.news_commands, Driving.command_bytes}
use Rattle.wire_replies.specs.Sinks.{Writes}
use Rattle.drive_sending.proofs.telling.say_root_news.Goals as goal
use Rattle.std.proofs.Common.{[], subst}

pub returns : goal.returns
returns g c = λ purpose.
    subst (λ t. Writes c.say_directory_news.result (g.S.ReplySink.writes c.args.out.now c.say_directory_news.new.out)
    (command_bytes (news_commands purpose DirectoryKind t [] c.args.news.now))) c.in_ok-token.ensures (c.say_directory_news.ensures purpose [])
