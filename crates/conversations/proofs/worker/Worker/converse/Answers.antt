use Rattle.std.proofs.{Common.{◌≡◌, ◌<◌, ◌≤◌, ◌++◌, length, take, refl, sym, subst, ◌∙◌, arith}, lemmas.Bool.false≢true}
use Rattle.std.specs.{Io.ReadsAtMost, Io.KnownBytes.{Appends, ReadConsumes}}
use Rattle.machine.specs.Steps.{FeedWritten}
use Rattle.conversations.specs.Conversation.{sight, Fed}
use Rattle.conversations.proofs.Conversing.{as_err, begins, converses_end, converses_more, failed_at, was_ok}
use Rattle.conversations.proofs.worker.Worker.converse.Goals as goal

pub loop-turn-init : goal.loop-turn-init
loop-turn-init g c =
    let old = sight (g.A.RepoAccess.point c.args.self.now.access) (g.I.Read.remaining c.args.input.now) (g.O.Write.contents c.args.output.now) c.args.self.now.envs in
    let h = begins g.A.RepoAccess.rules c.args.self.now.options.now g.E.EnvSource.gives old c.new-session.result c.new-session.ensures c.requires in
    (refl, h.0, refl, h.1)

pub returns-then-not-is_open-clause-conversed : goal.returns-then-not-is_open-clause-conversed
returns-then-not-is_open-clause-conversed g c = (
  record { phase = c.loop-turn.session.phase; rest = c.loop-turn.session.rest; converses = c.loop-turn.invariant.3 },
  λ still. absurd (false≢true (sym c.if-not-is_open.true ∙ c.is_open.ensures ∙ still)),
)

pub returns-in_err-answer_piece-clause-conversed : goal.returns-in_err-answer_piece-clause-conversed
returns-in_err-answer_piece-clause-conversed g c =
    let remaining = g.I.Read.remaining in
    let contents = g.O.Write.contents in
    let point = g.A.RepoAccess.point in
    let buffer = c.read_next.new.buffer in
    let count = was_ok _ c.read_next.result c.in_ok-count.count c.in_ok-count.ensures.cases in
    let bytes = subst (λ r. ReadConsumes (remaining c.loop-turn.input) (remaining c.read_next.new.input) r buffer) count c.read_next.ensures.bytes in
    let old = sight (point c.args.self.now.access) (remaining c.args.input.now) (contents c.args.output.now) c.args.self.now.envs in
    let mid = sight (point c.loop-turn.self.access) (remaining c.loop-turn.input) (contents c.loop-turn.output) c.loop-turn.self.envs in
    let new = sight (point c.answer_piece.new.self.access) (remaining c.read_next.new.input) (contents c.answer_piece.new.output) c.answer_piece.new.self.envs in
    let piece = take c.in_ok-count.count buffer in
    let given = subst (λ e. g.E.EnvSource.gives c.loop-turn.self.envs c.next_env-env.result e) (sym c.answer_piece.ensures.envs) c.next_env-env.ensures in
    let fault = c.in_err-answer_piece.field-0.0 in
    let fed = subst (λ s. Fed (as_err (Unit {0}) fault) g.A.RepoAccess.rules s c.next_env-env.result mid.point c.loop-turn.session piece new.point c.answer_piece.new.session (Appends mid.output new.output))
    c.loop-turn.invariant.2 c.in_err-answer_piece.ensures.fed in
    failed_at (Unit {0}) c.from_residual-in_err-answer_piece.result fault g.A.RepoAccess.rules c.args.self.now.options.now g.E.EnvSource.gives old mid new
    c.loop-turn.session c.answer_piece.new.session piece c.next_env-env.result c.loop-turn.invariant.3 bytes.0 given fed c.from_residual-in_err-answer_piece.ensures.1

pub loop-turn-preserved : goal.loop-turn-preserved
loop-turn-preserved g c =
    let remaining = g.I.Read.remaining in
    let contents = g.O.Write.contents in
    let point = g.A.RepoAccess.point in
    let buffer = c.read_next.new.buffer in
    let read = was_ok _ c.read_next.result c.in_ok-count.count c.in_ok-count.ensures.cases in
    let bound = subst (λ r. ReadsAtMost r buffer) read c.read_next.ensures.bound in
    let bytes = subst (λ r. ReadConsumes (remaining c.loop-turn.input) (remaining c.read_next.new.input) r buffer) read c.read_next.ensures.bytes in
    let full : length buffer ≡ 65536 = c.read_next.auto.buffer ∙ c.loop-turn.invariant.0 in
    let given = subst (λ e. g.E.EnvSource.gives c.loop-turn.self.envs c.next_env-env.result e) (sym c.answer_piece.ensures.envs) c.next_env-env.ensures in
    let y = c.loop-turn.session in
    let fed = subst (λ s. FeedWritten g.A.RepoAccess.rules s c.next_env-env.result (point c.loop-turn.self.access) y.phase
    (y.rest ++ take c.in_ok-count.count buffer) c.answer_piece.new.session.rest (point c.answer_piece.new.self.access)
    c.answer_piece.new.session.phase (Appends (contents c.loop-turn.output) (contents c.answer_piece.new.output)))
    c.loop-turn.invariant.2 c.in_ok-answer_piece.ensures.fed in
    let some : 0 < length (take c.in_ok-count.count buffer) = omega (arith, bound.1, c.if-count-eq0.false) in
    let at_most : length (take c.in_ok-count.count buffer) ≤ 65536 = omega (arith, bound.0, bound.1, full) in (
      full,
      c.answer_piece.ensures.rests,
      c.answer_piece.ensures.options ∙ c.loop-turn.invariant.2,
      converses_more g.A.RepoAccess.rules c.args.self.now.options.now g.E.EnvSource.gives
          (sight (point c.args.self.now.access) (remaining c.args.input.now) (contents c.args.output.now) c.args.self.now.envs)
          (sight (point c.loop-turn.self.access) (remaining c.loop-turn.input) (contents c.loop-turn.output) c.loop-turn.self.envs)
          (sight (point c.answer_piece.new.self.access) (remaining c.read_next.new.input) (contents c.answer_piece.new.output) c.answer_piece.new.self.envs)
          c.loop-turn.session.phase c.answer_piece.new.session.phase c.loop-turn.session.rest c.answer_piece.new.session.rest
          (take c.in_ok-count.count buffer) c.next_env-env.result
          some at_most c.loop-turn.invariant.3 bytes.0 given fed,
    )

pub returns-then-count-eq0-clause-conversed : goal.returns-then-count-eq0-clause-conversed
returns-then-count-eq0-clause-conversed g c =
    let remaining = g.I.Read.remaining in
    let contents = g.O.Write.contents in
    let point = g.A.RepoAccess.point in
    let buffer = c.read_next.new.buffer in
    let read = was_ok _ c.read_next.result c.in_ok-count.count c.in_ok-count.ensures.cases in
    let bytes = subst (λ r. ReadConsumes (remaining c.loop-turn.input) (remaining c.read_next.new.input) r buffer) read c.read_next.ensures.bytes in
    let full : length buffer ≡ 65536 = c.read_next.auto.buffer ∙ c.loop-turn.invariant.0 in
    let some : 0 < length buffer = omega (arith, full) in
    let zero : c.in_ok-count.count ≡ 0 = omega (arith, c.if-count-eq0.true) in
    let x = c.loop-turn.session in (
      record {
        phase = x.phase;
        rest = x.rest;
        converses = converses_end g.A.RepoAccess.rules c.args.self.now.options.now g.E.EnvSource.gives
            (sight (point c.args.self.now.access) (remaining c.args.input.now) (contents c.args.output.now) c.args.self.now.envs)
            (sight (point c.loop-turn.self.access) (remaining c.loop-turn.input) (contents c.loop-turn.output) c.loop-turn.self.envs)
            x.phase x.rest (remaining c.read_next.new.input) c.in_ok-count.count buffer c.loop-turn.invariant.3 zero bytes.0;
      },
      λ _. bytes.1 zero some,
    )
