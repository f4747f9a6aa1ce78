-- What is a session's own.
use Rattle.std.proofs.Common.{◌≡◌, inl, inr, ℕ, List, [], ◌∷◌, ◌++◌, Option, Some, None, refl, sym, ap, subst, ◌∙◌, append-nil, append_assoc}
use Rattle.std.specs.{Prelude.{Result, Ok, Err}, Io.KnownBytes.Appends}
use Rattle.repo_api.specs.Accepted.{Accepted}
use Rattle.access.specs.Points.{AccessRules, content_of, Point}
use Rattle.wire_replies.specs.declared.reply.Reply.{Reply}
use Rattle.machine.specs.{Answers.{Answer, Step, Verdict}, Answers.Verdict.{NotWritten, Unknown, Written}, Hearing.Input, Settings.Settings, Stages.Stage}
use Rattle.machine.specs.{Steps.{AddsAll, FeedLost, Leaves, SessionRun, StepAt, Stores}, declared.env.Env.Env, declared.phase.Phase.TheVariants.Greeted}
use Rattle.hub.specs.Asked.{AreAll, IsAsked}
use Rattle.hub.proofs.Effects.{does, leaves}
use Rattle.conversations.specs.{Pieces.Piece, declared.fault.TalkFault.TalkFault, declared.fault.TalkFault.TheVariants.{Read, Write, TooLong, NoMemory}}
use Rattle.conversations.specs.Conversation.{Breaks, Converses, PiecesAt, Served, Sight, sight}
use Rattle.session_pool.specs.Serving.{IsServed, ServesAll, ServesInTurn, Stand, stand}
use Rattle.shared_runs.specs.Own.{OwnChanges, OwnInTurn, OwnLast, OwnOfBroken, OwnOfSession, OwnPieces}

module _ (rules : AccessRules) (others : (p q : Point) → rules.between p q → q.own ≡ p.own)
    (counted : (p : Point) (e : Accepted) (q : Point) → rules.adds p e q → q.own ≡ p.own ++ e ∷ []) where
  adds_all : (p : Point) (es : List Accepted) (q : Point) → AddsAll rules p es q → q.own ≡ p.own ++ es
  adds_all p [] q is = ap (λ (x : Point). x.own) is ∙ sym (append-nil p.own)
  adds_all p (e ∷ es) q (mid, one, more) =
      adds_all mid es q more ∙ (ap (λ (own : List Accepted). own ++ es) (counted p e mid one) ∙ append_assoc p.own (e ∷ []) es)

  stores : (v : Verdict) (p q : Point) → Stores v p q → q.own ≡ p.own
  stores Written p q is = ap (λ (x : Point). x.own) is
  stores NotWritten p q failed = failed.same.own
  stores (Unknown e) p q halt = halt.same.own

  of_step : {step : Step} (p : Point) (a : Answer) (q : Point) → StepAt rules step p a q → q.own ≡ p.own ++ a.effect.changes
  of_step p a q h =
      let (mid, adds, stored) = h.moves in
      stores a.effect.store mid q stored
      ∙ (adds_all h.at a.effect.changes mid adds ∙ ap (λ (own : List Accepted). own ++ a.effect.changes) (others p h.at h.later))

  of_run : (s : Settings) (env : Env) (p : Point) (phase : Stage) (inputs : List Input) (told : List Reply) (env' : Env) (q : Point) (phase' : Stage)
      → SessionRun rules s env p phase inputs told env' q phase' → OwnChanges s env phase inputs p.own q.own env' phase'
  of_run s env p phase [] told env' q phase' (later, none, same, here) = (others p q later, same, here)
  of_run s env p phase (input ∷ inputs) told env' q phase' (a, mid, more, step, run, is) =
      let d = does step.at.halted s env (content_of step.at) phase input a step.step_is in (
        step.at.halted,
        content_of step.at,
        a,
        step.step_is,
        d.own,
        subst (λ (own : List Accepted). OwnChanges s a.env a.phase inputs own q.own env' phase') (of_step p a mid step)
            (of_run s a.env mid a.phase inputs more env' q phase' run),
      )

  of_last : (s : Settings) (env : Env) (p : Point) (phase : Stage) (left : Option Input) (q : Point) → Leaves rules env p phase left q
      → OwnLast s env phase left p.own q.own
  of_last s env p phase None q is = ap (λ (x : Point). x.own) is
  of_last s env p phase (Some input) q (a, step) =
      let (ask, t, running, asked, accepted, wanted, same) = leaves step.at.halted s env (content_of step.at) phase input a step.step_is in (
        step.at.halted,
        content_of step.at,
        a,
        step.step_is,
        subst (λ (x : Answer). AreAll (IsAsked s env phase input) x.effect.changes) (sym same) (asked, tt),
        of_step p a q step,
      )

  pub of_pieces : (s : Settings) (p : Point) (phase : Stage) (pieces : List Piece) (told : List Reply) (q : Point) (phase' : Stage)
      → PiecesAt rules s p phase pieces told q phase' → OwnPieces s phase pieces p.own q.own phase'
  of_pieces s p phase [] told q phase' (none, same, here) = (ap (λ (x : Point). x.own) same, here)
  of_pieces s p phase (piece ∷ pieces) told q phase' (first, after, mid, stage, more, run, rest, is) = (
    mid.own,
    after,
    stage,
    of_run s piece.env p phase piece.inputs first after mid stage run,
    of_pieces s mid stage pieces more q phase' rest,
  )

  pub of_lost : (s : Settings) (env : Env) (p : Point) (phase : Stage) (stream : List ℕ) (q : Point) (writes : List ℕ → Type 0)
      → (h : FeedLost rules s env p phase stream q writes) → OwnOfBroken s env h.inputs h.left phase p.own q.own
  of_lost s env p phase stream q writes h = record {
    mid = h.point_after.own;
    env_after = h.env_after;
    phase_after = h.phase_after;
    heard = of_run s env p phase h.inputs h.told h.env_after h.point_after h.phase_after h.run;
    last = of_last s h.env_after h.point_after h.phase_after h.left q h.leaves;
  }

  module _ {E : Type 0} (s : Settings) (gives : E → Env → E → Type 0) where
    nothing : (own : List Accepted) → OwnOfSession s own own
    nothing own = record { pieces = []; mid = own; phase = Greeted; heard = (refl, refl); rest = inl refl }

    of_conversation : (old new : Sight E) (phase : Stage) (rest : List ℕ) → Converses rules s gives old phase rest new
        → OwnOfSession s old.point.own new.point.own
    of_conversation old new phase rest h = record {
      pieces = h.pieces;
      mid = new.point.own;
      phase = phase;
      heard = of_pieces s old.point Greeted h.pieces h.told new.point phase h.run;
      rest = inl refl;
    }

    of_broken : (old new : Sight E) → Breaks rules s gives old new → OwnOfSession s old.point.own new.point.own
    of_broken old new h = record {
      pieces = h.converses.pieces;
      mid = h.before.point.own;
      phase = h.phase;
      heard = of_pieces s old.point Greeted h.converses.pieces h.converses.told h.before.point h.phase h.converses.run;
      rest = inr (
        h.env,
        h.lost.inputs,
        h.lost.left,
        of_lost s h.env h.before.point h.phase (h.rest ++ h.bytes) new.point (Appends h.before.output new.output) h.lost,
      );
    }

    unmoved : (old new : Sight E) → new.point ≡ old.point → OwnOfSession s old.point.own new.point.own
    unmoved old new same = subst (λ (p : Point). OwnOfSession s old.point.own p.own) (sym same) (nothing old.point.own)

    of_session : {T : Type 0} (r : Result T TalkFault) (old new : Sight E) → Served r rules s gives old new → OwnOfSession s old.point.own new.point.own
    of_session (Ok x) old new h =
        of_conversation (record old { output = h.answers.greeted }) new h.answers.phase h.answers.rest h.answers.converses
    of_session (Err (Read error)) old new h = of_conversation (record old { output = h.greeted }) new h.phase h.rest h.converses
    of_session (Err TooLong) old new h = of_conversation (record old { output = h.greeted }) new h.phase h.rest h.converses
    of_session (Err (Write error)) old new (inl (same, part)) = unmoved old new (ap (λ (x : Sight E). x.point) same)
    of_session (Err (Write error)) old new (inr (greeted, greets, h)) = of_broken (record old { output = greeted }) new h
    of_session (Err NoMemory) old new (inl same) = unmoved old new (ap (λ (x : Sight E). x.point) same)
    of_session (Err NoMemory) old new (inr (greeted, greets, h)) = of_broken (record old { output = greeted }) new h

  module _ {E : Type 0} (gives : E → Env → E → Type 0) where
    of_caller : (result : Result (Unit {0}) TalkFault) (input output unread written : Option (List ℕ)) (old new : Stand E)
        → IsServed rules gives result input output unread written old new → OwnOfSession old.settings old.point.own new.point.own
    of_caller result input output unread written old new h =
        of_session old.settings gives result (sight old.point input output old.envs) (sight new.point unread written new.envs) h.served

    of_all : (old : Stand E) (turns : List (Stand E)) (new : Stand E) → ServesAll rules gives old turns new
        → (later : List (List Accepted)) × OwnInTurn old.settings old.point.own later new.point.own
    of_all old [] new same = ([], ap (λ (x : Stand E). x.point.own) same)
    of_all old (mid ∷ turns) new (again, (result, input, output, unread, written, one), later) =
        let rest = of_all (stand old.settings mid.point mid.envs) turns new later in (
          mid.point.own ∷ rest.0,
          (
            (mid.settings, again, of_caller result input output unread written (stand mid.settings old.point old.envs) mid one),
            rest.1,
          ),
        )

    pub of_turns : (old new : Stand E) → ServesInTurn rules gives old new
        → (later : List (List Accepted)) × OwnInTurn old.settings old.point.own later new.point.own
    of_turns old new h = of_all old h.turns new h.served
