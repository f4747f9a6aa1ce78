use Rattle.std.proofs.{Common.{◌∷◌, [], ◌+◌, subst}, lemmas.Result.err_from_is_err_and}
use Rattle.drive_visits.specs.Visits.{kind_if}
use Rattle.drive_sides.specs.Plans.{whole}
use Rattle.drive_sending.specs.{Commands.{news_commands, open_command, opened_entry, news_told, text_had}, Tokens.token_of, Driving.command_bytes}
use Rattle.drive_sending.proofs.{Entries.sent_over, Written.{first_part, sent_behind}}
use Rattle.drive_sending.proofs.visits.say_open.Goals as goal
use Rattle.std.specs.Prelude.{false, option_copied}
use Rattle.wire_deltas.specs.Texts.{text_or_empty}
use Rattle.wire_replies.specs.Sinks.{Writes}
use Rattle.wire_replies.proofs.Parts.{part_none}

pub returns-in_err-news : goal.returns-in_err-news
returns-in_err-news g c =
    let p = err_from_is_err_and c.from_residual.result c.from_residual.ensures.1 in
    rw (p.1) (part_none _ _ (g.met.S.ReplySink.nothing _))

pub returns-in_err-say_made : goal.returns-in_err-say_made
returns-in_err-say_made g c =
    let p = err_from_is_err_and c.from_residual-in_err-say_made.result c.from_residual-in_err-say_made.ensures.1 in
    rw (p.1) (first_part _ (open_command (kind_if c.args.entrance.is_directory) (opened_entry (g.R.Repository.content c.args.trees.now.view.now)
    (whole c.args.trees.now.report.now c.args.trees.now.root) c.args.entrance.around c.args.place.now.path (kind_if c.args.entrance.is_directory)) ∷ [])
    (news_commands c.args.trees.now.report.now.ask.purpose (kind_if c.args.entrance.is_directory)
    (token_of (kind_if c.args.entrance.is_directory) (c.args.entrance.around + 1))
    (text_had (g.R.Repository.content c.args.trees.now.view.now) (whole c.args.trees.now.report.now c.args.trees.now.root) c.args.place.now.path false)
    (news_told (g.R.Repository.content c.args.trees.now.view.now) (whole c.args.trees.now.report.now c.args.trees.now.root) c.args.place.now.path false))
    (c.in_err-say_made.ensures _ c.open_command.ensures))

pub returns : goal.returns
returns g c =
    let state = g.R.Repository.content c.args.trees.now.view.now in
    let report = whole c.args.trees.now.report.now c.args.trees.now.root in
    let kind = kind_if c.args.entrance.is_directory in
    let token = token_of kind (c.args.entrance.around + 1) in
    let had = text_had state report c.args.place.now.path false in
    sent_behind _ g.met.S.ReplySink.more c.say_news.result _ _ _ (open_command kind (opened_entry state report c.args.entrance.around c.args.place.now.path kind) ∷ [])
    (news_commands report.ask.purpose kind token had (news_told state report c.args.place.now.path false))
    (c.in_ok-say_made.ensures _ c.open_command.ensures)
    (subst (λ n. Writes c.say_news.result (g.S.ReplySink.writes c.say_made.new.out c.say_news.new.out) (command_bytes (news_commands report.ask.purpose kind token had n)))
    c.in_ok-news.ensures
    (subst (λ cs. Writes c.say_news.result (g.S.ReplySink.writes c.say_made.new.out c.say_news.new.out) (command_bytes cs))
    (sent_over report.ask.purpose kind token (text_or_empty (option_copied c.text_before.result)) had c.in_ok-news.news c.text_before.ensures)
    c.say_news.ensures))
