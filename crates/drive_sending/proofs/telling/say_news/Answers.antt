use Rattle.std.specs.Prelude.{option_copied}
use Rattle.wire_deltas.specs.Texts.{text_or_empty}
use Rattle.drive_rules.specs.Steps.EntryKind.{DirectoryKind}
use Rattle.drive_visits.specs.Visits.{kind_if}
use Rattle.drive_sending.specs.{Commands.news_commands, Tokens.token_of, Driving.command_bytes}
use Rattle.wire_replies.specs.Sinks.{Writes}
use Rattle.drive_sending.proofs.telling.say_news.Goals as goal
use Rattle.std.proofs.Common.{◌+◌, subst, ◌≡◌}

pub returns-then-entrance : goal.returns-then-entrance
returns-then-entrance g c =
    rw (c.if-entrance.true) (subst (λ t. Writes c.say_directory_news.result (g.S.ReplySink.writes c.args.out.now c.say_directory_news.new.out)
    (command_bytes (news_commands c.args.basis.purpose DirectoryKind t (text_or_empty (option_copied c.args.basis.before)) c.args.news.now)))
    (subst (λ b. c.in_ok-token.token ≡ token_of (kind_if b) (c.args.entrance.around + 1)) c.if-entrance.true c.in_ok-token.ensures)
    (c.say_directory_news.ensures c.args.basis.purpose (text_or_empty (option_copied c.args.basis.before))))
