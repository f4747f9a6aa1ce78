use Rattle.std.proofs.Common.{◌∙◌, ◌++◌, rules}
use Rattle.std.specs.Io.KnownBytes.{Appends}
use Rattle.wire_replies.specs.Replies.{print}
use Rattle.conversations.proofs.{Conversing.{on_err, unwritten}, Gathered.{all_finished, part_finished}}
use Rattle.conversations.proofs.worker.Worker.answer_piece.Goals as goal

pub returns-in-Ok-fed-clause-fed : goal.returns-in-Ok-fed-clause-fed
returns-in-Ok-fed-clause-fed g c =
    let contents = g.O.Write.contents in
    let t = c.feed-fed.new.turn.out in
    let u = c.finish-finished.new.self in
    let fed = c.in-Ok-fed.ensures.ok tt in
    let name = c.finish-finished.ensures.same_reference ∙ fed.written.0 in
    let landed : Appends (contents c.args.output.now) (contents u.output.now) (print fed.told) =
    all_finished (contents c.args.output.now) (contents t.output.now) (contents u.output.now) c.new-buffer.result.items t.buffer.items t.fault (print fed.told)
    c.new-buffer.ensures.items fed.written.1 c.in-Ok.ensures.written in
    record {
      inputs = fed.inputs;
      yields = fed.yields;
      settled = fed.settled;
      told = fed.told;
      env_after = fed.env_after;
      run = fed.run;
      written = search rules;
    }

pub returns-in-Ok-clause-fed : goal.returns-in-Ok-clause-fed
returns-in-Ok-clause-fed g c =
    let contents = g.O.Write.contents in
    let t = c.feed-fed.new.turn.out in
    let u = c.finish-finished.new.self in
    let lost = c.in-Err-fed.ensures.lost tt c.requires.open in
    let wrote = lost.written.wrote in
    let name = c.finish-finished.ensures.same_reference ∙ wrote.0 in
    let landed : Appends (contents c.args.output.now) (contents u.output.now) lost.written.part =
    all_finished (contents c.args.output.now) (contents t.output.now) (contents u.output.now) c.new-buffer.result.items t.buffer.items t.fault lost.written.part
    c.new-buffer.ensures.items wrote.1 c.in-Ok.ensures.written in
    record {
      inputs = lost.inputs;
      left = lost.left;
      rest = lost.rest;
      yields = lost.yields;
      told = lost.told;
      env_after = lost.env_after;
      point_after = lost.point_after;
      phase_after = lost.phase_after;
      run = lost.run;
      leaves = lost.leaves;
      written = record {
        part = lost.written.part;
        rest = lost.written.rest;
        whole = lost.written.whole;
        wrote = search rules;
      };
    }

pub returns-clause-fed : goal.returns-clause-fed
returns-clause-fed g c =
    let contents = g.O.Write.contents in
    let old = c.args.session.now in
    let new = c.feed-fed.new.self in
    let t = c.feed-fed.new.turn.out in
    let u = c.finish-finished.new.self in
    unwritten c.feed-fed.result g.A.RepoAccess.rules c.args.self.now.options.now c.args.env (g.A.RepoAccess.point c.args.self.now.access) (g.A.RepoAccess.point c.feed-fed.new.access)
    old.phase new.phase (old.rest ++ c.args.piece.now) new.rest _ _ (c.feed-fed.ensures.ok tt) (on_err _ _ c.feed-fed.result c.requires.open (c.feed-fed.ensures.lost tt))
    (λ bytes wrote.
    let name = c.finish-finished.ensures.same_reference ∙ wrote.0 in
    let part = part_finished c.finish-finished.result (contents c.args.output.now) (contents t.output.now) (contents u.output.now) c.new-buffer.result.items t.buffer.items t.fault bytes
    c.new-buffer.ensures.items wrote.1 c.finish-finished.ensures.written in
    let landed : Appends (contents c.args.output.now) (contents u.output.now) part.part = part.wrote in
    record { part = part.part; rest = part.rest; whole = part.whole; wrote = search rules })
