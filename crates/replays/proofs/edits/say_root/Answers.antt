use Rattle.std.proofs.{Common.{◌≡◌, ◌∷◌, [], None, true, sym, ap, ◌∙◌, subst}, lemmas.Result.err_from_is_err_and}
use Rattle.repo_api.specs.Histories.{history_of}
use Rattle.wire_edits.specs.declared.editing.EditorCommand.TheVariants.{OpenRoot}
use Rattle.wire_replies.specs.Sinks.{Writes, WritesPart}
use Rattle.wire_replies.proofs.Parts.{part_none}
use Rattle.replays.specs.{Commands.token_of, Edits.{below, inside_commands}, Places.change_in, Sending.command_bytes, Shaping.root_shape}
use Rattle.replays.proofs.{Walked.{root_opened, root_silent}, Written.{first_part, sent_behind}}
use Rattle.replays.proofs.edits.say_root.Goals as goal

pub returns-in_err-is_to_be_opened : goal.returns-in_err-is_to_be_opened
returns-in_err-is_to_be_opened g c =
    let p = err_from_is_err_and c.from_residual.result c.from_residual.ensures.1 in
    rw (p.1) (part_none _ _ (g.met.S.ReplySink.nothing _))

pub returns-then-not-branch : goal.returns-then-not-branch
returns-then-not-branch g c =
    let state = g.R.Repository.content c.args.replay.now.view.now in
    let ask = c.args.replay.now.ask.now in
    let r = c.args.replay.now.revision in
    let spot = c.root_spot-spot.result in
    let shape = c.root_shape-shape.result in
    let opened = OpenRoot None (token_of true 0) in
    let inside = inside_commands state ask r shape spot.path (below spot.levels state ask r) in
    let at_root = c.root_spot-spot.ensures.path in
    let is : shape ≡ root_shape r (change_in (history_of state r) []) =
    c.root_shape-shape.ensures ∙ ap (root_shape r) (c.change_of.ensures state r c.root_spot-spot.ensures.run ∙ ap (change_in (history_of state r)) at_root) in
    subst (λ cs. g.S.ReplySink.writes c.args.out.now c.args.out.now (command_bytes cs))
    (sym (root_silent state ask r shape spot.path spot.levels at_root c.root_spot-spot.ensures.levels is (sym c.in_ok-is_to_be_opened.ensures ∙ c.if-not-branch.true)))
    (g.met.S.ReplySink.nothing c.args.out.now)

pub returns-in_err-say_command : goal.returns-in_err-say_command
returns-in_err-say_command g c =
    let state = g.R.Repository.content c.args.replay.now.view.now in
    let ask = c.args.replay.now.ask.now in
    let r = c.args.replay.now.revision in
    let spot = c.root_spot-spot.result in
    let shape = c.root_shape-shape.result in
    let opened = OpenRoot None (token_of true 0) in
    let inside = inside_commands state ask r shape spot.path (below spot.levels state ask r) in
    let at_root = c.root_spot-spot.ensures.path in
    let is : shape ≡ root_shape r (change_in (history_of state r) []) =
    c.root_shape-shape.ensures ∙ ap (root_shape r) (c.change_of.ensures state r c.root_spot-spot.ensures.run ∙ ap (change_in (history_of state r)) at_root) in
    let p = err_from_is_err_and c.from_residual-in_err-say_command.result c.from_residual-in_err-say_command.ensures.1 in
    rw (p.1) (subst (λ cs. WritesPart (g.S.ReplySink.writes c.args.out.now c.say_command.new.out) (command_bytes cs))
    (sym (root_opened state ask r shape spot.path spot.levels at_root c.root_spot-spot.ensures.levels is (sym c.in_ok-is_to_be_opened.ensures ∙ c.if-not-branch.false)))
    (first_part (g.S.ReplySink.writes c.args.out.now c.say_command.new.out) (opened ∷ []) inside (c.in_err-say_command.ensures opened c.open_root.ensures)))

pub returns : goal.returns
returns g c =
    let state = g.R.Repository.content c.args.replay.now.view.now in
    let ask = c.args.replay.now.ask.now in
    let r = c.args.replay.now.revision in
    let spot = c.root_spot-spot.result in
    let shape = c.root_shape-shape.result in
    let opened = OpenRoot None (token_of true 0) in
    let inside = inside_commands state ask r shape spot.path (below spot.levels state ask r) in
    let at_root = c.root_spot-spot.ensures.path in
    let is : shape ≡ root_shape r (change_in (history_of state r) []) =
    c.root_shape-shape.ensures ∙ ap (root_shape r) (c.change_of.ensures state r c.root_spot-spot.ensures.run ∙ ap (change_in (history_of state r)) at_root) in
    subst (λ cs. Writes c.say_inside.result (g.S.ReplySink.writes c.args.out.now c.say_inside.new.out) (command_bytes cs))
    (sym (root_opened state ask r shape spot.path spot.levels at_root c.root_spot-spot.ensures.levels is (sym c.in_ok-is_to_be_opened.ensures ∙ c.if-not-branch.false)))
    (sent_behind g.S.ReplySink.writes g.met.S.ReplySink.more c.say_inside.result c.args.out.now c.say_command.new.out c.say_inside.new.out (opened ∷ []) inside
    (c.in_ok-say_command.ensures opened c.open_root.ensures) c.say_inside.ensures)
