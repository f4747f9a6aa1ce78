use Rattle.std.proofs.{Common.{◌∷◌, [], map, ◌+◌, drop, ap}, lemmas.Result.err_from_is_err_and}
use Rattle.drive_visits.specs.Visits.{kind_if}
use Rattle.drive_sending.specs.Commands.{property_command}
use Rattle.drive_sending.proofs.telling.say_each.Goals as goal
use Rattle.drive_sending.proofs.Written.{going_on, going_failed, next_left}

pub returns-in_err-say_made : goal.returns-in_err-say_made
returns-in_err-say_made g c =
    let p = err_from_is_err_and c.from_residual.result c.from_residual.ensures.1 in
    let made = (property_command (kind_if c.args.is_directory) c.args.token.now) c.change-item.result in
    rw (p.1) (going_failed g.S.ReplySink.writes g.met.S.ReplySink.more _ _ _
    (map (property_command (kind_if c.args.is_directory) c.args.token.now) c.args.changes.now) _ (made ∷ [])
    (map (property_command (kind_if c.args.is_directory) c.args.token.now) (drop (c.loop-change.change-index + 1) c.args.changes.now))
    (ap (map (property_command (kind_if c.args.is_directory) c.args.token.now))
    (next_left c.args.changes.now c.loop-change.change-index c.change-item.result c.loop-change-test.true c.change-item.is)) c.loop-change.invariant
    (c.in_err-say_made.ensures made c.property_command.ensures))

pub loop-change-preserved : goal.loop-change-preserved
loop-change-preserved g c =
    let made = (property_command (kind_if c.args.is_directory) c.args.token.now) c.change-item.result in
    going_on g.S.ReplySink.writes g.met.S.ReplySink.more _ _ _ (map (property_command (kind_if c.args.is_directory) c.args.token.now) c.args.changes.now) _
    (made ∷ []) (map (property_command (kind_if c.args.is_directory) c.args.token.now) (drop (c.loop-change.change-index + 1) c.args.changes.now))
    (ap (map (property_command (kind_if c.args.is_directory) c.args.token.now))
    (next_left c.args.changes.now c.loop-change.change-index c.change-item.result c.loop-change-test.true c.change-item.is)) c.loop-change.invariant
    (c.in_ok-say_made.ensures made c.property_command.ensures)
