use Rattle.std.proofs.{Common.{sym, ◌∙◌}, lemmas.Result.err_from_is_err_and, lemmas.Bool.false≢true}
use Rattle.session.specs.Taking.{input_of}
use Rattle.machine.proofs.Resting.{beginning_trans, begins}
use Rattle.access.specs.Points.{content_of}
use Rattle.session.proofs.Known.{failed_so, known_lost, known_written, rests_served, served_so, stays_lost, stays_written, trees_failed}
use Rattle.session.proofs.Runs.{start, more, finish, stop, halt}
use Rattle.session.proofs.session.serve_all.Goals as goal

pub inputs-init : goal.inputs-init
inputs-init g c = (
  c.requires.rests,
  begins (content_of (g.A.RepoAccess.point c.args.access.now)).revisions,
  λ known. known,
  λ _. start g.S.ReplySink.writes g.met.S.ReplySink.nothing g.met.S.ReplySink.more g.A.RepoAccess.rules c.args.options.now g.met.A.RepoAccess.stays
      c.args.turn.now.env (g.A.RepoAccess.point c.args.access.now) c.args.phase c.args.reader.now.rest c.args.turn.now.out,
)

pub returns-in-Err-clause-err : goal.returns-in-Err-clause-err
returns-in-Err-clause-err g c = λ known.
    halt g.S.ReplySink.writes g.met.S.ReplySink.nothing g.met.S.ReplySink.more g.A.RepoAccess.rules c.args.options.now g.met.A.RepoAccess.stays
    c.args.turn.now.env (g.A.RepoAccess.point c.args.access.now) c.args.phase c.args.reader.now.rest c.args.turn.now.out
    c.inputs.turn.env (g.A.RepoAccess.point c.inputs.access) c.inputs.phase c.inputs.reader.rest c.inputs.turn.out (c.inputs.invariant.3 known)

pub returns-in-Ok-None-clause-ok : goal.returns-in-Ok-None-clause-ok
returns-in-Ok-None-clause-ok g c = λ known.
    let t = rw c.in-Ok-None.field-0-is at c.in-Ok-None.ensures.taken in
    rw (t.1) (finish g.S.ReplySink.writes g.met.S.ReplySink.nothing g.met.S.ReplySink.more g.A.RepoAccess.rules c.args.options.now g.met.A.RepoAccess.stays
    c.args.turn.now.env (g.A.RepoAccess.point c.args.access.now) c.args.phase c.args.reader.now.rest c.args.turn.now.out
    c.inputs.turn.env (g.A.RepoAccess.point c.inputs.access) c.inputs.phase c.inputs.reader.rest c.inputs.turn.out (c.inputs.invariant.3 known) (λ _. t.0))

-- ---- an input that was not served

pub returns-in_err-phase-in-Ok-Some-clause-known : goal.returns-in_err-phase-in-Ok-Some-clause-known
returns-in_err-phase-in-Ok-Some-clause-known g c = λ known.
    c.inputs.invariant.2 (known_lost g.S.Texts.is_honest g.S.ReplySink.writes g.met.S.ReplySink.kept g.A.RepoAccess.rules _ _ _ _ _ _
    c.in_err-phase-in-Ok-Some.ensures known)

pub returns-in_err-phase-in-Ok-Some-clause-err : goal.returns-in_err-phase-in-Ok-Some-clause-err
returns-in_err-phase-in-Ok-Some-clause-err g c =
    let t = rw c.in-Ok-Some.field-0-is at c.in-Ok-Some.ensures.taken in
    let p = err_from_is_err_and c.from_residual.result c.from_residual.ensures.1 in
    rw (p.1) (λ known. stop g.S.ReplySink.writes g.met.S.ReplySink.nothing g.met.S.ReplySink.more g.A.RepoAccess.rules c.args.options.now g.met.A.RepoAccess.stays
    c.args.turn.now.env (g.A.RepoAccess.point c.args.access.now) c.args.phase c.args.reader.now.rest c.args.turn.now.out
    c.inputs.turn.env (g.A.RepoAccess.point c.inputs.access) (g.A.RepoAccess.point c.serve.new.access) c.inputs.phase
    c.inputs.reader.rest c.take_incoming.new.reader.rest c.inputs.turn.out c.serve.new.turn.out (input_of c.in-Ok-Some.incoming)
    (c.inputs.invariant.3 (known_lost g.S.Texts.is_honest g.S.ReplySink.writes g.met.S.ReplySink.kept g.A.RepoAccess.rules _ _ _ _ _ _ c.in_err-phase-in-Ok-Some.ensures known))
    t.0
    (failed_so g.A.RepoAccess.rules (g.S.Texts.is_honest c.serve.new.turn.out) known c.args.options.now c.inputs.turn.env c.inputs.phase (input_of c.in-Ok-Some.incoming)
    (g.A.RepoAccess.point c.inputs.access) (g.A.RepoAccess.point c.serve.new.access) (g.S.ReplySink.writes c.inputs.turn.out c.serve.new.turn.out)
    c.in_err-phase-in-Ok-Some.ensures))

pub returns-in_err-phase-in-Ok-Some-clause-trees : goal.returns-in_err-phase-in-Ok-Some-clause-trees
returns-in_err-phase-in-Ok-Some-clause-trees g c =
    let p = err_from_is_err_and c.from_residual.result c.from_residual.ensures.1 in
    rw (p.1) (trees_failed g.A.RepoAccess.rules g.met.A.RepoAccess.keeps g.met.A.RepoAccess.counts (g.S.Texts.is_honest c.serve.new.turn.out) c.args.options.now
    c.inputs.turn.env c.inputs.phase (input_of c.in-Ok-Some.incoming) (g.A.RepoAccess.point c.inputs.access) (g.A.RepoAccess.point c.serve.new.access)
    (g.S.ReplySink.writes c.inputs.turn.out c.serve.new.turn.out) g.met.A.RepoAccess.sound c.steps_keep_trees.ensures.step c.steps_keep_trees.ensures.read
    c.steps_keep_trees.ensures.unreleased c.in_err-phase-in-Ok-Some.ensures c.inputs.invariant.0)

pub returns-in_err-phase-in-Ok-Some-clause-stays : goal.returns-in_err-phase-in-Ok-Some-clause-stays
returns-in_err-phase-in-Ok-Some-clause-stays g c =
    beginning_trans _ _ _ c.inputs.invariant.1
    (stays_lost g.A.RepoAccess.rules g.met.A.RepoAccess.keeps g.met.A.RepoAccess.counts (g.S.Texts.is_honest c.serve.new.turn.out) c.args.options.now
    c.inputs.turn.env c.inputs.phase (input_of c.in-Ok-Some.incoming) (g.A.RepoAccess.point c.inputs.access) (g.A.RepoAccess.point c.serve.new.access)
    (g.S.ReplySink.writes c.inputs.turn.out c.serve.new.turn.out) c.in_err-phase-in-Ok-Some.ensures)

-- ---- an input that was served

pub returns-then-not-is_open-clause-known : goal.returns-then-not-is_open-clause-known
returns-then-not-is_open-clause-known g c = λ known.
    c.inputs.invariant.2 (known_written g.S.Texts.is_honest g.S.ReplySink.writes g.met.S.ReplySink.kept g.A.RepoAccess.rules _ _ _ _ _ _ _
    c.in_ok-phase-in-Ok-Some.ensures known)

pub returns-then-not-is_open-clause-ok : goal.returns-then-not-is_open-clause-ok
returns-then-not-is_open-clause-ok g c =
    let t = rw c.in-Ok-Some.field-0-is at c.in-Ok-Some.ensures.taken in λ known.
    finish g.S.ReplySink.writes g.met.S.ReplySink.nothing g.met.S.ReplySink.more g.A.RepoAccess.rules c.args.options.now g.met.A.RepoAccess.stays
    c.args.turn.now.env (g.A.RepoAccess.point c.args.access.now) c.args.phase c.args.reader.now.rest c.args.turn.now.out
    c.serve.new.turn.env (g.A.RepoAccess.point c.serve.new.access) c.in_ok-phase-in-Ok-Some.phase c.take_incoming.new.reader.rest c.serve.new.turn.out
    (more g.S.ReplySink.writes g.met.S.ReplySink.nothing g.met.S.ReplySink.more g.A.RepoAccess.rules c.args.options.now g.met.A.RepoAccess.stays
    c.args.turn.now.env (g.A.RepoAccess.point c.args.access.now) c.args.phase c.args.reader.now.rest c.args.turn.now.out
    c.inputs.turn.env c.serve.new.turn.env (g.A.RepoAccess.point c.inputs.access) (g.A.RepoAccess.point c.serve.new.access) c.inputs.phase c.in_ok-phase-in-Ok-Some.phase
    c.inputs.reader.rest c.take_incoming.new.reader.rest c.inputs.turn.out c.serve.new.turn.out (input_of c.in-Ok-Some.incoming)
    (c.inputs.invariant.3 (known_written g.S.Texts.is_honest g.S.ReplySink.writes g.met.S.ReplySink.kept g.A.RepoAccess.rules _ _ _ _ _ _ _ c.in_ok-phase-in-Ok-Some.ensures known))
    t.0
    (served_so g.A.RepoAccess.rules (g.S.Texts.is_honest c.serve.new.turn.out) known c.args.options.now c.inputs.turn.env c.inputs.phase (input_of c.in-Ok-Some.incoming)
    (g.A.RepoAccess.point c.inputs.access) (g.A.RepoAccess.point c.serve.new.access) (g.S.ReplySink.writes c.inputs.turn.out c.serve.new.turn.out)
    c.in_ok-phase-in-Ok-Some.phase c.serve.new.turn.env c.in_ok-phase-in-Ok-Some.ensures))
    (λ o. absurd (false≢true (sym c.if-not-is_open.true ∙ c.is_open.ensures ∙ o)))

pub returns-then-not-is_open-clause-rests : goal.returns-then-not-is_open-clause-rests
returns-then-not-is_open-clause-rests g c =
    rests_served g.A.RepoAccess.rules g.met.A.RepoAccess.keeps g.met.A.RepoAccess.counts (g.S.Texts.is_honest c.serve.new.turn.out) c.args.options.now
    c.inputs.turn.env c.inputs.phase (input_of c.in-Ok-Some.incoming) (g.A.RepoAccess.point c.inputs.access) (g.A.RepoAccess.point c.serve.new.access)
    (g.S.ReplySink.writes c.inputs.turn.out c.serve.new.turn.out) g.met.A.RepoAccess.sound c.steps_keep_trees.ensures.step c.steps_keep_trees.ensures.read
    c.in_ok-phase-in-Ok-Some.phase c.serve.new.turn.env c.in_ok-phase-in-Ok-Some.ensures c.inputs.invariant.0

pub returns-then-not-is_open-clause-stays : goal.returns-then-not-is_open-clause-stays
returns-then-not-is_open-clause-stays g c =
    beginning_trans _ _ _ c.inputs.invariant.1
    (stays_written g.A.RepoAccess.rules g.met.A.RepoAccess.keeps g.met.A.RepoAccess.counts (g.S.Texts.is_honest c.serve.new.turn.out) c.args.options.now
    c.inputs.turn.env c.inputs.phase (input_of c.in-Ok-Some.incoming) (g.A.RepoAccess.point c.inputs.access) (g.A.RepoAccess.point c.serve.new.access)
    (g.S.ReplySink.writes c.inputs.turn.out c.serve.new.turn.out) c.in_ok-phase-in-Ok-Some.phase c.serve.new.turn.env c.in_ok-phase-in-Ok-Some.ensures)

pub inputs-preserved : goal.inputs-preserved
inputs-preserved g c =
    let t = rw c.in-Ok-Some.field-0-is at c.in-Ok-Some.ensures.taken in (
      rests_served g.A.RepoAccess.rules g.met.A.RepoAccess.keeps g.met.A.RepoAccess.counts (g.S.Texts.is_honest c.serve.new.turn.out) c.args.options.now
          c.inputs.turn.env c.inputs.phase (input_of c.in-Ok-Some.incoming) (g.A.RepoAccess.point c.inputs.access) (g.A.RepoAccess.point c.serve.new.access)
          (g.S.ReplySink.writes c.inputs.turn.out c.serve.new.turn.out) g.met.A.RepoAccess.sound c.steps_keep_trees.ensures.step c.steps_keep_trees.ensures.read
          c.in_ok-phase-in-Ok-Some.phase c.serve.new.turn.env c.in_ok-phase-in-Ok-Some.ensures c.inputs.invariant.0,
      beginning_trans _ _ _ c.inputs.invariant.1
          (stays_written g.A.RepoAccess.rules g.met.A.RepoAccess.keeps g.met.A.RepoAccess.counts (g.S.Texts.is_honest c.serve.new.turn.out) c.args.options.now
          c.inputs.turn.env c.inputs.phase (input_of c.in-Ok-Some.incoming) (g.A.RepoAccess.point c.inputs.access) (g.A.RepoAccess.point c.serve.new.access)
          (g.S.ReplySink.writes c.inputs.turn.out c.serve.new.turn.out) c.in_ok-phase-in-Ok-Some.phase c.serve.new.turn.env c.in_ok-phase-in-Ok-Some.ensures),
      λ known. c.inputs.invariant.2 (known_written g.S.Texts.is_honest g.S.ReplySink.writes g.met.S.ReplySink.kept g.A.RepoAccess.rules _ _ _ _ _ _ _
          c.in_ok-phase-in-Ok-Some.ensures known),
      λ known. more g.S.ReplySink.writes g.met.S.ReplySink.nothing g.met.S.ReplySink.more g.A.RepoAccess.rules c.args.options.now g.met.A.RepoAccess.stays
          c.args.turn.now.env (g.A.RepoAccess.point c.args.access.now) c.args.phase c.args.reader.now.rest c.args.turn.now.out
          c.inputs.turn.env c.serve.new.turn.env (g.A.RepoAccess.point c.inputs.access) (g.A.RepoAccess.point c.serve.new.access) c.inputs.phase c.in_ok-phase-in-Ok-Some.phase
          c.inputs.reader.rest c.take_incoming.new.reader.rest c.inputs.turn.out c.serve.new.turn.out (input_of c.in-Ok-Some.incoming)
          (c.inputs.invariant.3 (known_written g.S.Texts.is_honest g.S.ReplySink.writes g.met.S.ReplySink.kept g.A.RepoAccess.rules _ _ _ _ _ _ _ c.in_ok-phase-in-Ok-Some.ensures known))
          t.0
          (served_so g.A.RepoAccess.rules (g.S.Texts.is_honest c.serve.new.turn.out) known c.args.options.now c.inputs.turn.env c.inputs.phase (input_of c.in-Ok-Some.incoming)
          (g.A.RepoAccess.point c.inputs.access) (g.A.RepoAccess.point c.serve.new.access) (g.S.ReplySink.writes c.inputs.turn.out c.serve.new.turn.out)
          c.in_ok-phase-in-Ok-Some.phase c.serve.new.turn.env c.in_ok-phase-in-Ok-Some.ensures),
    )
