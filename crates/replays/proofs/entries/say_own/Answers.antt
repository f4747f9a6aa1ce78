use Rattle.std.proofs.{Common.◌∙◌, lemmas.Result.err_from_is_err_and}
use Rattle.std.specs.Prelude.{option_copied}
use Rattle.repo_api.specs.Kinds.{is_directory_kind}
use Rattle.wire_deltas.specs.Texts.{text_or_empty}
use Rattle.wire_replies.proofs.Parts.{part_none}
use Rattle.replays.specs.{Commands.token_of, Places.place_in, Shaping.base_of}
use Rattle.replays.proofs.Own.{own_sent}
use Rattle.replays.proofs.entries.say_own.Goals as goal

pub returns-in_err-token : goal.returns-in_err-token
returns-in_err-token g c =
    let p = err_from_is_err_and c.from_residual.result c.from_residual.ensures.1 in
    rw (p.1) (part_none _ _ (g.met.S.ReplySink.nothing _))

pub returns-in_err-changes : goal.returns-in_err-changes
returns-in_err-changes g c =
    let p = err_from_is_err_and c.from_residual-in_err-changes.result c.from_residual-in_err-changes.ensures.1 in
    rw (p.1) (part_none _ _ (g.met.S.ReplySink.nothing _))

pub returns : goal.returns
returns g c =
    let kind = c.is_directory-is_directory.ensures.kind in
    own_sent g.S.ReplySink.writes g.met.S.ReplySink.more c.say_text_told.result _ _ _ (g.R.Repository.content c.args.replay.now.view.now) c.args.replay.now.ask.now
    c.is_directory-is_directory.result (is_directory_kind c.args.shape.now.kind) c.args.shape.now.has_text (base_of c.args.shape.now)
    (place_in c.args.replay.now.revision c.args.path.now) c.in_ok-token.token c.as_slice.result.now (option_copied c.text_told-told.result.text) (text_or_empty (option_copied c.text_told-told.result.before)) kind
    (c.in_ok-token.ensures ∙ (λ i. token_of (kind i) (c.len.ensures i))) (c.as_slice.ensures ∙ c.in_ok-changes.ensures) c.text_told-told.ensures.text c.text_told-told.ensures.before
    c.in_ok-say_changes.ensures c.say_text_told.ensures
