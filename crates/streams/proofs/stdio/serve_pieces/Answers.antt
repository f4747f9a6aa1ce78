use Rattle.std.proofs.Common.{◌≡◌, ◌<◌, ◌≤◌, length, take, sym, subst, ◌∙◌, arith}
use Rattle.std.specs.{Io.ReadsAtMost, Io.KnownBytes.ReadConsumes}
use Rattle.streams.specs.Stream.{scene}
use Rattle.conversations.proofs.Conversing.{was_ok}
use Rattle.streams.proofs.Runs.{failed_at, hears_more}
use Rattle.streams.proofs.stdio.serve_pieces.Goals as goal

pub returns-in_err-answer_piece : goal.returns-in_err-answer_piece
returns-in_err-answer_piece g c =
    let remaining = g.R.Read.remaining in
    let contents = g.W.Write.contents in
    let buffer = c.read_piece.new.buffer in
    let count = was_ok _ c.read_piece.result c.in_ok-count.count c.in_ok-count.ensures.cases in
    let bytes = subst (λ r. ReadConsumes (remaining c.loop.input) (remaining c.read_piece.new.input) r buffer) count c.read_piece.ensures.bytes in
    let old = scene c.args.hub.now (remaining c.args.input.now) (contents c.args.output.now) c.args.envs.now in
    let mid = scene c.loop.hub (remaining c.loop.input) (contents c.loop.output) c.loop.envs in
    let new = scene c.answer_piece.new.hub (remaining c.read_piece.new.input) (contents c.answer_piece.new.output) c.next_env-env.new.self in
    failed_at (Unit {0}) c.from_residual-in_err-answer_piece.result c.in_err-answer_piece.field-0.0 g.E.EnvSource.gives c.args.number old mid new
    c.next_env-env.result (take c.in_ok-count.count buffer) c.loop.invariant.1 (sym c.is_open.ensures ∙ c.if-not-is_open.false) c.next_env-env.ensures bytes.0
    c.in_err-answer_piece.ensures c.from_residual-in_err-answer_piece.ensures.1

pub loop-preserved : goal.loop-preserved
loop-preserved g c =
    let remaining = g.R.Read.remaining in
    let contents = g.W.Write.contents in
    let buffer = c.read_piece.new.buffer in
    let read = was_ok _ c.read_piece.result c.in_ok-count.count c.in_ok-count.ensures.cases in
    let bound = subst (λ r. ReadsAtMost r buffer) read c.read_piece.ensures.bound in
    let bytes = subst (λ r. ReadConsumes (remaining c.loop.input) (remaining c.read_piece.new.input) r buffer) read c.read_piece.ensures.bytes in
    let fed = c.in_ok-answer_piece.ensures in
    let full : length buffer ≡ 65536 = c.read_piece.auto.buffer ∙ c.loop.invariant.0 in
    let some : 0 < length (take c.in_ok-count.count buffer) = omega (arith, bound.1, c.if-count-eq0.false) in
    let at_most : length (take c.in_ok-count.count buffer) ≤ 65536 = omega (arith, bound.0, bound.1, full) in (
      full,
      hears_more g.E.EnvSource.gives c.args.number
          (scene c.args.hub.now (remaining c.args.input.now) (contents c.args.output.now) c.args.envs.now)
          (scene c.loop.hub (remaining c.loop.input) (contents c.loop.output) c.loop.envs)
          (scene c.answer_piece.new.hub (remaining c.read_piece.new.input) (contents c.answer_piece.new.output) c.next_env-env.new.self)
          c.next_env-env.result (take c.in_ok-count.count buffer) fed.0
          some at_most c.loop.invariant.1 bytes.0 c.next_env-env.ensures fed.1 fed.2,
    )
