use Rattle.std.proofs.Common.{◌∙◌, rules}
use Rattle.std.specs.Io.KnownBytes.{Appends}
use Rattle.hub.proofs.Sinks.{breaks_as}
use Rattle.conversations.proofs.Gathered.{all_finished, part_finished}
use Rattle.streams.proofs.Runs.{fed_in_part}
use Rattle.streams.proofs.stdio.answer_piece.Goals as goal

pub returns-in-Ok-fed : goal.returns-in-Ok-fed
returns-in-Ok-fed g c =
    let contents = g.W.Write.contents in
    let t = c.feed_to-fed.new.turn.out in
    let u = c.finish-finished.new.self in
    let feeds = c.in-Ok-fed.ensures.fed tt in
    let name = c.finish-finished.ensures.same_reference ∙ feeds.2.0 in
    let landed : Appends (contents c.args.output.now) (contents u.output.now) feeds.0 =
    all_finished (contents c.args.output.now) (contents t.output.now) (contents u.output.now) c.new-buffer.result.items t.buffer.items t.fault feeds.0
    c.new-buffer.ensures.items feeds.2.1 c.in-Ok.ensures.written in
    (feeds.0, feeds.1, search rules)

pub returns-in-Ok : goal.returns-in-Ok
returns-in-Ok g c =
    let contents = g.W.Write.contents in
    let t = c.feed_to-fed.new.turn.out in
    let u = c.finish-finished.new.self in
    breaks_as c.args.hub.now c.args.env c.args.number c.args.piece.now c.feed_to-fed.new.self _ _
    (λ bytes wrote.
    let name = c.finish-finished.ensures.same_reference ∙ wrote.0 in
    let landed : Appends (contents c.args.output.now) (contents u.output.now) bytes =
    all_finished (contents c.args.output.now) (contents t.output.now) (contents u.output.now) c.new-buffer.result.items t.buffer.items t.fault bytes
    c.new-buffer.ensures.items wrote.1 c.in-Ok.ensures.written in
    search rules) c.in-Err-fed.fault (c.in-Err-fed.ensures.fed tt)

pub returns : goal.returns
returns g c =
    let contents = g.W.Write.contents in
    let t = c.feed_to-fed.new.turn.out in
    let u = c.finish-finished.new.self in
    fed_in_part c.feed_to-fed.result c.args.hub.now c.args.env c.args.number c.args.piece.now c.feed_to-fed.new.self _ _ (c.feed_to-fed.ensures.fed tt)
    (λ bytes wrote.
    let name = c.finish-finished.ensures.same_reference ∙ wrote.0 in
    let part = part_finished c.finish-finished.result (contents c.args.output.now) (contents t.output.now) (contents u.output.now) c.new-buffer.result.items t.buffer.items t.fault bytes
    c.new-buffer.ensures.items wrote.1 c.finish-finished.ensures.written in
    let landed : Appends (contents c.args.output.now) (contents u.output.now) part.part = part.wrote in
    record { part = part.part; rest = part.rest; whole = part.whole; wrote = search rules })
