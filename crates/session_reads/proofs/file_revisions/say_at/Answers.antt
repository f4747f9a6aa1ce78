use Rattle.std.proofs.{Common.{[], ◌∷◌, ◌++◌}, lemmas.Result.err_from_is_err_and}
use Rattle.std.specs.Prelude.{Some, option_copied}
use Rattle.wire_replies.specs.declared.reply.Reply.TheVariants as replies
use Rattle.wire_replies.proofs.Parts.{part_behind, part_first, said_behind}
use Rattle.machine.specs.Histories.{delta_told, file_revision_head, has_text_of, text_before}
use Rattle.session_reads.proofs.file_revisions.say_at.Goals as goal

pub returns-in_err-say_head : goal.returns-in_err-say_head
returns-in_err-say_head g c =
    let p = err_from_is_err_and c.from_residual.result c.from_residual.ensures.1 in
    let content = g.R.Repository.content c.args.view.now in
    let had = option_copied c.args.before in
    let place = c.args.place.now in
    let head = file_revision_head content had place in
    let text = delta_told (has_text_of content had place) (text_before content had) (text_before content (Some place)) in
    rw (p.1) (part_first _ (head ∷ []) (text ++ replies.Chunk [] ∷ []) (c.in_err-say_head.ensures head c.file_revision_head.ensures))

pub returns-in_err-say_other_text : goal.returns-in_err-say_other_text
returns-in_err-say_other_text g c =
    let p = err_from_is_err_and c.from_residual-in_err-say_other_text.result c.from_residual-in_err-say_other_text.ensures.1 in
    let content = g.R.Repository.content c.args.view.now in
    let had = option_copied c.args.before in
    let place = c.args.place.now in
    let head = file_revision_head content had place in
    let text = delta_told (has_text_of content had place) (text_before content had) (text_before content (Some place)) in
    rw (p.1) (part_behind _ g.met.S.ReplySink.more _ _ _ (head ∷ []) (text ++ replies.Chunk [] ∷ []) (c.in_ok-say_head.ensures head c.file_revision_head.ensures)
    (part_first _ text (replies.Chunk [] ∷ []) c.in_err-say_other_text.ensures))

pub returns : goal.returns
returns g c =
    let content = g.R.Repository.content c.args.view.now in
    let had = option_copied c.args.before in
    let place = c.args.place.now in
    let head = file_revision_head content had place in
    let text = delta_told (has_text_of content had place) (text_before content had) (text_before content (Some place)) in
    said_behind _ g.met.S.ReplySink.more c.say_delta_end.result _ _ _ (head ∷ []) (text ++ replies.Chunk [] ∷ [])
    (c.in_ok-say_head.ensures head c.file_revision_head.ensures)
    (said_behind _ g.met.S.ReplySink.more c.say_delta_end.result _ _ _ text (replies.Chunk [] ∷ []) c.in_ok-say_other_text.ensures c.say_delta_end.ensures)
