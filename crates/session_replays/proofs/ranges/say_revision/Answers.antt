use Rattle.std.proofs.{Common.{[], ◌∷◌}, lemmas.Result.err_from_is_err_and}
use Rattle.repo_api.specs.Kinds.{properties_at}
use Rattle.replays.specs.Edits.{edit_replies}
use Rattle.wire_replies.specs.declared.reply.Reply.TheVariants as replies
use Rattle.wire_replies.proofs.Parts.{part_first, said_behind}
use Rattle.session_replays.proofs.ranges.say_revision.Goals as goal

pub returns-in_err-say_made : goal.returns-in_err-say_made
returns-in_err-say_made g c =
    let p = err_from_is_err_and c.from_residual.result c.from_residual.ensures.1 in
    let content = g.R.Repository.content c.args.view.now in
    let head = replies.ReplayedProperties (properties_at content c.args.revision) in
    rw (p.1) (part_first _ (head ∷ []) (edit_replies content c.args.ask.now c.args.revision) (c.in_err-say_made.ensures head c.properties_told.ensures))

pub returns : goal.returns
returns g c =
    let content = g.R.Repository.content c.args.view.now in
    let head = replies.ReplayedProperties (properties_at content c.args.revision) in
    said_behind _ g.met.S.ReplySink.more c.say_edit.result _ _ _ (head ∷ []) (edit_replies content c.args.ask.now c.args.revision)
    (c.in_ok-say_made.ensures head c.properties_told.ensures) c.say_edit.ensures
