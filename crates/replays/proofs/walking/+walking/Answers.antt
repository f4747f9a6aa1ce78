use Rattle.std.proofs.Common.{◌≡◌, ◌-◌, ◌<◌, ◌++◌, ◌∷◌, [], suc, arith, rules, tests, false, true, is_some, sym, ap, ◌∙◌, flat_map, subst}
use Rattle.std.proofs.lemmas.Result.{err_from_is_err_and}
use Rattle.repo_api.specs.Kinds.{is_directory_kind}
use Rattle.wire_replies.specs.{Made.Makes, Sinks.{Writes, WritesPart}}
use Rattle.wire_replies.proofs.Parts.{part_none}
use Rattle.replays.specs.{Commands.{add_command, close_command, open_command}, Edits.{below, inside_commands, is_named, standing_commands}, Places.place_in}
use Rattle.replays.specs.{Sending.command_bytes, Shaping.base_of}
use Rattle.replays.proofs.Quiet.{below_visited, entry_at}
use Rattle.replays.proofs.Walked.{chosen, entry_there, gone_of, inside_directory, inside_file, own_of, passed, standing_added, standing_kept}
use Rattle.replays.proofs.Written.{first_part, Going, going_failed, going_from, going_on, sent_behind}
use Rattle.replays.proofs.walking.+walking.Goals as goal

-- ---- say_below

pub say_below-returns-in_err-names : goal.say_below-returns-in_err-names
say_below-returns-in_err-names g t c =
    let p = err_from_is_err_and c.from_residual.result c.from_residual.ensures.1 in
    rw (p.1) (part_none _ _ (g.met.S.ReplySink.nothing _))

pub say_below-loop-name-init : goal.say_below-loop-name-init
say_below-loop-name-init g t c =
    let state = g.R.Repository.content c.args.replay.now.view.now in
    let ask = c.args.replay.now.ask.now in
    let r = c.args.replay.now.revision in
    let here = c.args.here.now in
    let some : 0 < here.levels = search (rules, tests) in
    let all = below here.levels state ask r here.place here.path in
    let gives = c.into_iter-name-iterator.ensures.into_iter_gives in
    subst (λ left. Going g.S.ReplySink.writes c.args.out.now c.args.out.now all left)
    (below_visited here.levels state ask r here.place here.path here.run.now c.in_ok-names.names.keys (λ zero. omega (some, zero, arith)) c.requires.run gives.4 c.in_ok-names.ensures
    ∙ ap (flat_map (entry_at (here.levels - 1) state ask r here.place here.path)) (sym gives.0))
    (going_from g.S.ReplySink.writes g.met.S.ReplySink.nothing c.args.out.now all)

pub say_below-returns-in_err-say_named : goal.say_below-returns-in_err-say_named
say_below-returns-in_err-say_named g t c =
    let state = g.R.Repository.content c.args.replay.now.view.now in
    let ask = c.args.replay.now.ask.now in
    let r = c.args.replay.now.revision in
    let here = c.args.here.now in
    let some : 0 < here.levels = search (rules, tests) in
    let one_less : here.levels ≡ suc (here.levels - 1) = omega (some, arith) in
    let said = flat_map (entry_at (here.levels - 1) state ask r here.place here.path) in
    let at : c.loop-name.name-iterator ≡ c.in-Some.name ∷ c.next.new.self = search rules in
    let p = err_from_is_err_and c.from_residual-in_err-say_named.result c.from_residual-in_err-say_named.ensures.1 in
    rw (p.1) (going_failed g.S.ReplySink.writes g.met.S.ReplySink.more c.args.out.now c.loop-name.out c.say_named.new.out (below here.levels state ask r here.place here.path) (said c.loop-name.name-iterator)
    (entry_at (here.levels - 1) state ask r here.place here.path c.in-Some.name) (said c.next.new.self) (ap said at) c.loop-name.invariant
    (c.in_err-say_named.ensures (here.levels - 1) one_less))

pub say_below-loop-name-preserved : goal.say_below-loop-name-preserved
say_below-loop-name-preserved g t c =
    let state = g.R.Repository.content c.args.replay.now.view.now in
    let ask = c.args.replay.now.ask.now in
    let r = c.args.replay.now.revision in
    let here = c.args.here.now in
    let some : 0 < here.levels = search (rules, tests) in
    let one_less : here.levels ≡ suc (here.levels - 1) = omega (some, arith) in
    let said = flat_map (entry_at (here.levels - 1) state ask r here.place here.path) in
    let at : c.loop-name.name-iterator ≡ c.in-Some.name ∷ c.next.new.self = search rules in
    going_on g.S.ReplySink.writes g.met.S.ReplySink.more c.args.out.now c.loop-name.out c.say_named.new.out (below here.levels state ask r here.place here.path) (said c.loop-name.name-iterator)
    (entry_at (here.levels - 1) state ask r here.place here.path c.in-Some.name) (said c.next.new.self) (ap said at) c.loop-name.invariant
    (c.in_ok-say_named.ensures (here.levels - 1) one_less)

-- ---- say_entry

pub say_entry-returns-then-is_present : goal.say_entry-returns-then-is_present
say_entry-returns-then-is_present g t c =
    let state = g.R.Repository.content c.args.replay.now.view.now in
    let ask = c.args.replay.now.ask.now in
    let r = c.args.replay.now.revision in
    let spot = c.args.spot.now in
    let shape = c.in_ok-shape.shape in
    let inside = below spot.levels state ask r in
    subst (λ cs. Writes c.say_standing.result (g.S.ReplySink.writes c.args.out.now c.say_standing.new.out) (command_bytes cs))
    (sym (entry_there state ask r spot.path inside spot.place shape (sym c.is_in_part.ensures ∙ c.if-not-is_in_part.false) c.in_ok-shape.ensures
    (sym c.is_present.ensures.kind ∙ c.if-is_present.true)))
    (sent_behind g.S.ReplySink.writes g.met.S.ReplySink.more c.say_standing.result c.args.out.now c.say_going.new.out c.say_standing.new.out (gone_of state ask r spot.path inside shape)
    (standing_commands state ask r shape spot.path inside) c.in_ok-say_going.ensures c.say_standing.ensures)

-- ---- say_standing

pub say_standing-returns-then-is_none : goal.say_standing-returns-then-is_none
say_standing-returns-then-is_none g t c =
    let state = g.R.Repository.content c.args.replay.now.view.now in
    let ask = c.args.replay.now.ask.now in
    let r = c.args.replay.now.revision in
    let spot = c.args.spot.now in
    let new : is_some c.args.shape.now.kept ≡ false = search rules in
    subst (λ cs. Writes c.say_added.result (g.S.ReplySink.writes c.args.out.now c.say_added.new.out) (command_bytes cs))
    (sym (standing_added state ask r spot.path (below spot.levels state ask r) c.args.shape.now new)) c.say_added.ensures

pub say_standing-returns-else-is_none : goal.say_standing-returns-else-is_none
say_standing-returns-else-is_none g t c =
    let state = g.R.Repository.content c.args.replay.now.view.now in
    let ask = c.args.replay.now.ask.now in
    let r = c.args.replay.now.revision in
    let spot = c.args.spot.now in
    let kept : is_some c.args.shape.now.kept ≡ true = search rules in
    subst (λ cs. Writes c.say_kept.result (g.S.ReplySink.writes c.args.out.now c.say_kept.new.out) (command_bytes cs))
    (sym (standing_kept state ask r spot.path (below spot.levels state ask r) c.args.shape.now kept)) c.say_kept.ensures

-- ---- say_added

pub say_added-returns-in_err-say_command : goal.say_added-returns-in_err-say_command
say_added-returns-in_err-say_command g t c =
    let state = g.R.Repository.content c.args.replay.now.view.now in
    let ask = c.args.replay.now.ask.now in
    let r = c.args.replay.now.revision in
    let spot = c.args.spot.now in
    let shape = c.args.shape.now in
    let added = add_command (is_directory_kind shape.kind) spot.path shape.source in
    let made : Makes c.add_command-added.result added =
    subst (λ d. Makes c.add_command-added.result (add_command d spot.path shape.source)) c.is_directory.ensures.kind c.add_command-added.ensures in
    let p = err_from_is_err_and c.from_residual.result c.from_residual.ensures.1 in
    rw (p.1) (first_part (g.S.ReplySink.writes c.args.out.now c.say_command.new.out) (added ∷ []) (inside_commands state ask r shape spot.path (below spot.levels state ask r))
    (c.in_err-say_command.ensures added made))

pub say_added-returns : goal.say_added-returns
say_added-returns g t c =
    let state = g.R.Repository.content c.args.replay.now.view.now in
    let ask = c.args.replay.now.ask.now in
    let r = c.args.replay.now.revision in
    let spot = c.args.spot.now in
    let shape = c.args.shape.now in
    let added = add_command (is_directory_kind shape.kind) spot.path shape.source in
    let made : Makes c.add_command-added.result added =
    subst (λ d. Makes c.add_command-added.result (add_command d spot.path shape.source)) c.is_directory.ensures.kind c.add_command-added.ensures in
    sent_behind g.S.ReplySink.writes g.met.S.ReplySink.more c.say_inside.result c.args.out.now c.say_command.new.out c.say_inside.new.out (added ∷ [])
    (inside_commands state ask r shape spot.path (below spot.levels state ask r)) (c.in_ok-say_command.ensures added made) c.say_inside.ensures

-- ---- say_kept

pub say_kept-returns-in_err-is_to_be_opened : goal.say_kept-returns-in_err-is_to_be_opened
say_kept-returns-in_err-is_to_be_opened g t c =
    let p = err_from_is_err_and c.from_residual.result c.from_residual.ensures.1 in
    rw (p.1) (part_none _ _ (g.met.S.ReplySink.nothing _))

pub say_kept-returns-then-not-branch : goal.say_kept-returns-then-not-branch
say_kept-returns-then-not-branch g t c =
    let state = g.R.Repository.content c.args.replay.now.view.now in
    let ask = c.args.replay.now.ask.now in
    let r = c.args.replay.now.revision in
    let spot = c.args.spot.now in
    let shape = c.args.shape.now in
    let named = is_named state ask r shape spot.path (below spot.levels state ask r) in
    let opened = open_command (is_directory_kind shape.kind) spot.path in
    let inside = inside_commands state ask r shape spot.path (below spot.levels state ask r) in
    subst (λ cs. g.S.ReplySink.writes c.args.out.now c.args.out.now (command_bytes cs)) (sym (passed named (opened ∷ inside) [] (sym c.in_ok-is_to_be_opened.ensures ∙ c.if-not-branch.true)))
    (g.met.S.ReplySink.nothing c.args.out.now)

pub say_kept-returns-in_err-say_command : goal.say_kept-returns-in_err-say_command
say_kept-returns-in_err-say_command g t c =
    let state = g.R.Repository.content c.args.replay.now.view.now in
    let ask = c.args.replay.now.ask.now in
    let r = c.args.replay.now.revision in
    let spot = c.args.spot.now in
    let shape = c.args.shape.now in
    let named = is_named state ask r shape spot.path (below spot.levels state ask r) in
    let opened = open_command (is_directory_kind shape.kind) spot.path in
    let inside = inside_commands state ask r shape spot.path (below spot.levels state ask r) in
    let made : Makes c.open_command-opened.result opened =
    subst (λ d. Makes c.open_command-opened.result (open_command d spot.path)) c.is_directory.ensures.kind c.open_command-opened.ensures in
    let p = err_from_is_err_and c.from_residual-in_err-say_command.result c.from_residual-in_err-say_command.ensures.1 in
    rw (p.1) (subst (λ cs. WritesPart (g.S.ReplySink.writes c.args.out.now c.say_command.new.out) (command_bytes cs))
    (sym (chosen named (opened ∷ inside) [] (sym c.in_ok-is_to_be_opened.ensures ∙ c.if-not-branch.false)))
    (first_part (g.S.ReplySink.writes c.args.out.now c.say_command.new.out) (opened ∷ []) inside (c.in_err-say_command.ensures opened made)))

pub say_kept-returns : goal.say_kept-returns
say_kept-returns g t c =
    let state = g.R.Repository.content c.args.replay.now.view.now in
    let ask = c.args.replay.now.ask.now in
    let r = c.args.replay.now.revision in
    let spot = c.args.spot.now in
    let shape = c.args.shape.now in
    let named = is_named state ask r shape spot.path (below spot.levels state ask r) in
    let opened = open_command (is_directory_kind shape.kind) spot.path in
    let inside = inside_commands state ask r shape spot.path (below spot.levels state ask r) in
    let made : Makes c.open_command-opened.result opened =
    subst (λ d. Makes c.open_command-opened.result (open_command d spot.path)) c.is_directory.ensures.kind c.open_command-opened.ensures in
    subst (λ cs. Writes c.say_inside.result (g.S.ReplySink.writes c.args.out.now c.say_inside.new.out) (command_bytes cs))
    (sym (chosen named (opened ∷ inside) [] (sym c.in_ok-is_to_be_opened.ensures ∙ c.if-not-branch.false)))
    (sent_behind g.S.ReplySink.writes g.met.S.ReplySink.more c.say_inside.result c.args.out.now c.say_command.new.out c.say_inside.new.out (opened ∷ []) inside
    (c.in_ok-say_command.ensures opened made) c.say_inside.ensures)

-- ---- say_inside

pub say_inside-returns-then-is_directory : goal.say_inside-returns-then-is_directory
say_inside-returns-then-is_directory g t c =
    let state = g.R.Repository.content c.args.replay.now.view.now in
    let ask = c.args.replay.now.ask.now in
    let r = c.args.replay.now.revision in
    let spot = c.args.spot.now in
    let shape = c.args.shape.now in
    let inside = below spot.levels state ask r in
    subst (λ cs. Writes c.say_entered.result (g.S.ReplySink.writes c.args.out.now c.say_entered.new.out) (command_bytes cs))
    (sym (inside_directory state ask r spot.path inside shape (sym c.is_directory.ensures.kind ∙ c.if-is_directory.true)))
    (sent_behind g.S.ReplySink.writes g.met.S.ReplySink.more c.say_entered.result c.args.out.now c.say_own.new.out c.say_entered.new.out (own_of state ask r spot.path inside shape)
    (inside (base_of shape) spot.path ++ close_command state true (place_in r spot.path) ∷ []) c.in_ok-say_own.ensures c.say_entered.ensures)

pub say_inside-returns-else-is_directory : goal.say_inside-returns-else-is_directory
say_inside-returns-else-is_directory g t c =
    let state = g.R.Repository.content c.args.replay.now.view.now in
    let ask = c.args.replay.now.ask.now in
    let r = c.args.replay.now.revision in
    let spot = c.args.spot.now in
    let shape = c.args.shape.now in
    let inside = below spot.levels state ask r in
    subst (λ cs. Writes c.say_close.result (g.S.ReplySink.writes c.args.out.now c.say_close.new.out) (command_bytes cs))
    (sym (inside_file state ask r spot.path inside shape (sym c.is_directory.ensures.kind ∙ c.if-is_directory.false)))
    (sent_behind g.S.ReplySink.writes g.met.S.ReplySink.more c.say_close.result c.args.out.now c.say_own.new.out c.say_close.new.out (own_of state ask r spot.path inside shape)
    (close_command state false (place_in r spot.path) ∷ []) c.in_ok-say_own.ensures c.say_close.ensures)

-- ---- say_entered

pub say_entered-returns-in_err-here : goal.say_entered-returns-in_err-here
say_entered-returns-in_err-here g t c =
    let p = err_from_is_err_and c.from_residual.result c.from_residual.ensures.1 in
    rw (p.1) (part_none _ _ (g.met.S.ReplySink.nothing _))

pub say_entered-returns-in_err-say_below : goal.say_entered-returns-in_err-say_below
say_entered-returns-in_err-say_below g t c =
    let state = g.R.Repository.content c.args.replay.now.view.now in
    let ask = c.args.replay.now.ask.now in
    let r = c.args.replay.now.revision in
    let spot = c.args.spot.now in
    let shape = c.args.shape.now in
    let here = c.in_ok-here.here in
    let beneath = below spot.levels state ask r (base_of shape) spot.path in
    let close = close_command state true (place_in r spot.path) ∷ [] in
    let is : below here.levels state ask r here.place here.path ≡ beneath =
    ap (λ k. below k state ask r here.place here.path) c.in_ok-here.ensures.levels
    ∙ ap (λ at. below spot.levels state ask r at here.path) c.in_ok-here.ensures.place
    ∙ ap (λ p. below spot.levels state ask r (base_of shape) p) c.in_ok-here.ensures.path in
    let p = err_from_is_err_and c.from_residual-in_err-say_below.result c.from_residual-in_err-say_below.ensures.1 in
    rw (p.1) (first_part (g.S.ReplySink.writes c.args.out.now c.say_below.new.out) beneath close
    (subst (λ cs. WritesPart (g.S.ReplySink.writes c.args.out.now c.say_below.new.out) (command_bytes cs)) is c.in_err-say_below.ensures))

pub say_entered-returns : goal.say_entered-returns
say_entered-returns g t c =
    let state = g.R.Repository.content c.args.replay.now.view.now in
    let ask = c.args.replay.now.ask.now in
    let r = c.args.replay.now.revision in
    let spot = c.args.spot.now in
    let shape = c.args.shape.now in
    let here = c.in_ok-here.here in
    let beneath = below spot.levels state ask r (base_of shape) spot.path in
    let close = close_command state true (place_in r spot.path) ∷ [] in
    let is : below here.levels state ask r here.place here.path ≡ beneath =
    ap (λ k. below k state ask r here.place here.path) c.in_ok-here.ensures.levels
    ∙ ap (λ at. below spot.levels state ask r at here.path) c.in_ok-here.ensures.place
    ∙ ap (λ p. below spot.levels state ask r (base_of shape) p) c.in_ok-here.ensures.path in
    sent_behind g.S.ReplySink.writes g.met.S.ReplySink.more c.say_close.result c.args.out.now c.say_below.new.out c.say_close.new.out beneath close
    (subst (λ cs. g.S.ReplySink.writes c.args.out.now c.say_below.new.out (command_bytes cs)) is c.in_ok-say_below.ensures) c.say_close.ensures
