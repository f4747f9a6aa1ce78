-- How far a run has come.
use Rattle.std.proofs.Common.{◌≡◌, ℕ, List, [], ◌∷◌, ◌++◌, Some, None, true, refl, sym, subst, inl, inr, append-nil, append_assoc}
use Rattle.wire_replies.specs.{Replies.print, declared.reply.Reply.Reply}
use Rattle.wire_replies.proofs.Parts.{both_written, part_none, part_all, part_first, part_behind}
use Rattle.access.specs.Points.{AccessRules, Point}
use Rattle.machine.specs.{Hearing.{HasNoMore, Input, Yields, YieldsFirst}, Machine.{InputStep, UnreleasedStep}, Settings.Settings, Stages.{is_open, Stage}}
use Rattle.machine.specs.{Steps.{FeedLost, FeedWritten, SessionRun, StepOrPart, StepWritten}, declared.env.Env.Env}

-- from (env0, p0, phase0) over the inputs done to (env, p, phase); what is told is written
pub record Progress (rules : AccessRules) (s : Settings) (env0 : Env) (p0 : Point) (phase0 : Stage) (stream : List ℕ) (env : Env) (p : Point) (phase : Stage) (rest : List ℕ) (writes : List ℕ → Type 0) : Type 0 where
  pub done : List Input
  pub told : List Reply
  pub came : (more : List Input) (end : List ℕ) → Yields rest more end → Yields stream (done ++ more) end
  pub written : writes (print told)
  pub goes : (inputs : List Input) (replies : List Reply) (env' : Env) (p' : Point) (phase' : Stage)
      → SessionRun rules s env p phase inputs replies env' p' phase' → SessionRun rules s env0 p0 phase0 (done ++ inputs) (told ++ replies) env' p' phase'

module _ {S : Type 0} (writes : S → S → List ℕ → Type 0) (nothing : (o : S) → writes o o [])
    (further : (o o' o'' : S) (first second : List ℕ) → writes o o' first → writes o' o'' second → writes o o'' (first ++ second))
    (rules : AccessRules) (s : Settings) (stays : (p : Point) → rules.between p p) (env0 : Env) (p0 : Point) (phase0 : Stage) (stream : List ℕ) (out0 : S) where
  pub start : Progress rules s env0 p0 phase0 stream env0 p0 phase0 stream (writes out0 out0)
  start = record { done = []; told = []; came = λ more end comes. comes; written = nothing out0; goes = λ inputs replies env' p' phase' run. run }

  pub more : (env env' : Env) (p q : Point) (phase phase' : Stage) (rest rest' : List ℕ) (out out' : S) (input : Input)
      → Progress rules s env0 p0 phase0 stream env p phase rest (writes out0 out)
      → YieldsFirst rest input rest'
      → StepWritten rules (InputStep s env phase input) p q phase' env' (writes out out')
      → Progress rules s env0 p0 phase0 stream env' q phase' rest' (writes out0 out')
  more env env' p q phase phase' rest rest' out out' input h brings served =
      let a = served.answer in
      record {
        done = h.done ++ input ∷ [];
        told = h.told ++ a.replies;
        came = λ more end comes. subst (λ (x : List Input). Yields stream x end) (sym (append_assoc h.done (input ∷ []) more)) (h.came (input ∷ more) end (rest', brings, comes));
        written = both_written writes further out0 out out' h.told a.replies h.written served.written;
        goes = λ inputs replies env'' p'' phase'' run.
            let run' : SessionRun rules s a.env q a.phase inputs replies env'' p'' phase'' =
            subst (λ (x : Env). SessionRun rules s x q a.phase inputs replies env'' p'' phase'') served.env_after
            (subst (λ (x : Stage). SessionRun rules s env' q x inputs replies env'' p'' phase'') served.phase_after run) in
            let whole = h.goes (input ∷ inputs) (a.replies ++ replies) env'' p'' phase'' (a, q, replies, served.happens, run', refl) in
            subst (λ (x : List Input). SessionRun rules s env0 p0 phase0 x ((h.told ++ a.replies) ++ replies) env'' p'' phase'') (sym (append_assoc h.done (input ∷ []) inputs))
            (subst (λ (x : List Reply). SessionRun rules s env0 p0 phase0 (h.done ++ input ∷ inputs) x env'' p'' phase'') (sym (append_assoc h.told a.replies replies)) whole);
      }

  pub finish : (env : Env) (p : Point) (phase : Stage) (rest : List ℕ) (out : S) → Progress rules s env0 p0 phase0 stream env p phase rest (writes out0 out)
      → (is_open phase ≡ true → HasNoMore rest)
      → FeedWritten rules s env0 p0 phase0 stream rest p phase (writes out0 out)
  finish env p phase rest out h settled =
      record {
        inputs = h.done ++ [];
        yields = h.came [] rest refl;
        settled = settled;
        told = h.told ++ [];
        env_after = env;
        run = h.goes [] [] env p phase (stays p, refl, refl, refl);
        written = subst (λ (rs : List Reply). writes out0 out (print rs)) (sym (append-nil h.told)) h.written;
      }

  pub stop : (env : Env) (p q : Point) (phase : Stage) (rest rest' : List ℕ) (out out' : S) (input : Input) → Progress rules s env0 p0 phase0 stream env p phase rest (writes out0 out)
      → YieldsFirst rest input rest' → StepOrPart rules (InputStep s env phase input) (UnreleasedStep env phase input) p q (writes out out')
      → FeedLost rules s env0 p0 phase0 stream q (writes out0 out')
  stop env p q phase rest rest' out out' input h brings (inl (inl (later, unwritten))) =
      record {
        inputs = h.done ++ [];
        left = None;
        rest = rest;
        yields = subst (λ (xs : List Input). Yields stream xs rest) (sym (append-nil (h.done ++ []))) (h.came [] rest refl);
        told = h.told ++ [];
        env_after = env;
        point_after = q;
        phase_after = phase;
        run = h.goes [] [] env q phase (later, refl, refl, refl);
        leaves = refl;
        written = part_behind writes further out0 out out' h.told [] h.written (part_none (writes out out') [] unwritten);
      }
  stop env p q phase rest rest' out out' input h brings (inl (inr (a, serves, part))) =
      record {
        inputs = h.done ++ input ∷ [];
        left = None;
        rest = rest';
        yields = subst (λ (xs : List Input). Yields stream xs rest') (sym (append-nil (h.done ++ input ∷ []))) (h.came (input ∷ []) rest' (rest', brings, refl));
        told = h.told ++ (a.replies ++ []);
        env_after = a.env;
        point_after = q;
        phase_after = a.phase;
        run = h.goes (input ∷ []) (a.replies ++ []) a.env q a.phase (a, q, [], serves, (stays q, refl, refl, refl), refl);
        leaves = refl;
        written = part_behind writes further out0 out out' h.told (a.replies ++ []) h.written (part_first (writes out out') a.replies [] part);
      }
  stop env p q phase rest rest' out out' input h brings (inr (a, leaves, unwritten)) =
      record {
        inputs = h.done ++ [];
        left = Some input;
        rest = rest';
        yields = subst (λ (xs : List Input). Yields stream xs rest') (sym (append_assoc h.done [] (input ∷ []))) (h.came (input ∷ []) rest' (rest', brings, refl));
        told = h.told ++ [];
        env_after = env;
        point_after = p;
        phase_after = phase;
        run = h.goes [] [] env p phase (stays p, refl, refl, refl);
        leaves = (a, leaves);
        written = part_behind writes further out0 out out' h.told [] h.written (part_none (writes out out') [] unwritten);
      }

  -- without another input
  pub halt : (env : Env) (p : Point) (phase : Stage) (rest : List ℕ) (out : S) → Progress rules s env0 p0 phase0 stream env p phase rest (writes out0 out)
      → FeedLost rules s env0 p0 phase0 stream p (writes out0 out)
  halt env p phase rest out h =
      record {
        inputs = h.done ++ [];
        left = None;
        rest = rest;
        yields = subst (λ (xs : List Input). Yields stream xs rest) (sym (append-nil (h.done ++ []))) (h.came [] rest refl);
        told = h.told ++ [];
        env_after = env;
        point_after = p;
        phase_after = phase;
        run = h.goes [] [] env p phase (stays p, refl, refl, refl);
        leaves = refl;
        written = part_first (writes out0 out) h.told [] (part_all (writes out0 out) (print h.told) h.written);
      }

  -- before any input
  pub lost_all : FeedLost rules s env0 p0 phase0 stream p0 (writes out0 out0)
  lost_all = record {
    inputs = [];
    left = None;
    rest = stream;
    yields = refl;
    told = [];
    env_after = env0;
    point_after = p0;
    phase_after = phase0;
    run = (stays p0, refl, refl, refl);
    leaves = refl;
    written = part_none (writes out0 out0) [] (nothing out0);
  }
