-- Pieces of a stream make one run.
use Rattle.std.proofs.Common.{◌≡◌, ℕ, ◌<◌, ◌≤◌, List, [], ◌∷◌, ◌++◌, length, map, Bool, true, false, Option, Some, None, inl, inr, refl, sym, ap, subst, ◌∙◌}
use Rattle.std.proofs.{Common.{append_assoc, append-nil}, lemmas.Grind.flat_map-append}
use Rattle.std.specs.{Prelude.{◌⊎◌, if◌then◌else◌}, List.flat_map}
use Rattle.wire_replies.specs.declared.reply.Reply.{Reply}
use Rattle.repo_api.specs.States.{RepoState}
use Rattle.machine.specs.{Answers.{Answer, content_after, halted_after, pending_after}, Hearing.{Input, Yields}, Hearing.Input.{Broken, Whole}}
use Rattle.machine.specs.{Machine.InputStep, Settings.Settings, Stages.{is_open, SessionState, Stage}, declared.env.Env.Env}
use Rattle.machine.specs.declared.phase.Phase.TheVariants.{Greeted, LoggingIn, Challenged, Serving, Editing, Skipping, Reporting, Driven, Ended}
use Rattle.hub.specs.{Laws.IsUnbroken, Runs.{answered, Event, Feeds, HubRun, HubStep, InputHappens, InputsAre, with_rest}}
use Rattle.hub.specs.Runs.Event.{Connects, Drops, HandsIn, Hears, Leaves}
use Rattle.hub.specs.SessionLaws.{kept-updated, session_of-updated, session_of-without, updated_updated, yields_more}
use Rattle.hub.specs.State.{HubState, kept, session_of, updated, without}
use Rattle.hub.proofs.Composing.{runs_on}
use Rattle.conversations.specs.Pieces.{Piece, bytes_of, inputs_of, ComesInPieces}
use Rattle.conversations.proofs.Growing.{fed_piece, both_cuts}
use Rattle.streams.specs.Stream.{events_of, PiecesRun, StreamRun, Draws}

-- ---- the events of a session's inputs

abbrev inputs_heard : ℕ → List Input → List Event
inputs_heard n inputs = map (Hears n) inputs

are_events_of : (n : ℕ) (inputs : List Input) (events : List Event) → InputsAre n inputs events → events ≡ inputs_heard n inputs
are_events_of n [] [] are = refl
are_events_of n [] (event ∷ events) are = absurd are
are_events_of n (input ∷ inputs) [] are = absurd are
are_events_of n (input ∷ inputs) (Connects m ∷ events) are = absurd are
are_events_of n (input ∷ inputs) (HandsIn words ∷ events) are = absurd are
are_events_of n (input ∷ inputs) (Leaves m came ∷ events) are = absurd are
are_events_of n (input ∷ inputs) (Drops m ∷ events) are = absurd are
are_events_of n (input ∷ inputs) (Hears m x ∷ events) (number, same, are) = λ i. Hears (number i) (same i) ∷ are_events_of n inputs events are i

of_inputs : (n : ℕ) (inputs : List Input) → InputsAre n inputs (inputs_heard n inputs)
of_inputs n [] = tt
of_inputs n (input ∷ inputs) = (refl, refl, of_inputs n inputs)

-- ---- pieces are a run

pub pieces_run : (old new : HubState) (n : ℕ) (pieces : List Piece) (told : List Reply) → PiecesRun old n pieces told new
    → (env : Env) → (after : Env) × HubRun old env (flat_map (events_of n) pieces) told new after
pieces_run old new n [] told run env = (env, (run.0, run.1, refl))
pieces_run old new n (piece ∷ pieces) told (events, first, mid, between, more, are, run, later, is) env =
    let given : HubRun old piece.env (inputs_heard n piece.inputs) first mid between =
    subst (λ (es : List Event). HubRun old piece.env es first mid between) (are_events_of n piece.inputs events are) run in
    let rest = pieces_run mid new n pieces more later between in
    let es = inputs_heard n piece.inputs ++ flat_map (events_of n) pieces in
    let all : HubRun old piece.env es (first ++ more) new rest.0 = runs_on old mid new piece.env between rest.0 (inputs_heard n piece.inputs) (flat_map (events_of n) pieces) first more given rest.1 in
    (rest.0, ([], old, piece.env, told, (refl, refl, refl), subst (λ (t : List Reply). HubRun old piece.env es t new rest.0) (sym is) all, refl))

-- ---- a session that isn't open

-- to a session that isn't open nothing happens
nothing_happens : (n : ℕ) (inputs : List Input) (old new : HubState) (env after : Env) (told : List Reply)
    → session_of old.sessions n ≡ None → HubRun old env (inputs_heard n inputs) told new after → new ≡ old
nothing_happens n [] old new env after told none run = run.1
nothing_happens n (input ∷ inputs) old new env after told none (first, mid, between, more, step, run, is) =
    let happens : InputHappens old env n None input first mid between = subst (λ (o : Option SessionState). InputHappens old env n o input first mid between) none step in
    let same : mid ≡ old = happens.1 in
    nothing_happens n inputs mid new between after more (ap (λ (h : HubState). session_of h.sessions n) same ∙ none) run ∙ same

no_piece_happens : (n : ℕ) (pieces : List Piece) (old new : HubState) (told : List Reply) → session_of old.sessions n ≡ None → PiecesRun old n pieces told new → new ≡ old
no_piece_happens n [] old new told none run = run.1
no_piece_happens n (piece ∷ pieces) old new told none (events, first, mid, after, more, are, run, later, is) =
    let given : HubRun old piece.env (inputs_heard n piece.inputs) first mid after =
    subst (λ (es : List Event). HubRun old piece.env es first mid after) (are_events_of n piece.inputs events are) run in
    let same : mid ≡ old = nothing_happens n piece.inputs old mid piece.env after first none given in
    no_piece_happens n pieces mid new more (ap (λ (h : HubState). session_of h.sessions n) same ∙ none) later ∙ same

-- ---- a session that stays open

-- a wrong byte ends the session
broken_ends : (halted : Bool) (s : Settings) (env : Env) (c : RepoState) (phase : Stage) (a : Answer) → InputStep s env phase Broken halted c a → a.phase ≡ Ended
broken_ends halted s env c Greeted a step = ap (λ (x : Answer). x.phase) step
broken_ends halted s env c (LoggingIn login) a step = ap (λ (x : Answer). x.phase) step
broken_ends halted s env c (Challenged pending) a step = ap (λ (x : Answer). x.phase) step
broken_ends halted s env c (Serving client) a step = ap (λ (x : Answer). x.phase) step
broken_ends halted s env c (Editing edit) a step = ap (λ (x : Answer). x.phase) step
broken_ends halted s env c (Skipping client) a step = ap (λ (x : Answer). x.phase) step
broken_ends halted s env c (Reporting reporting) a step = ap (λ (x : Answer). x.phase) step
broken_ends halted s env c (Driven client) a step = ap (λ (x : Answer). x.phase) step
broken_ends halted s env c Ended a step = ap (λ (x : Answer). x.phase) step

either_way : (b : Bool) → (b ≡ true) ⊎ (b ≡ false)
either_way true = inl refl
either_way false = inr refl

some_or_none : (o : Option SessionState) → ((s : SessionState) × (o ≡ Some s)) ⊎ (o ≡ None)
some_or_none (Some s) = inl (s, refl)
some_or_none None = inr refl

-- What is known of a run that leaves its session open: what was left of the stream stays, no byte was wrong, and with
-- other bytes left it is the same run.
record Stays (n : ℕ) (old : HubState) (s : SessionState) (env : Env) (inputs : List Input) (told : List Reply) (new : HubState) (after : Env) (t : SessionState) : Type 0 where
  rest_is : t.rest ≡ s.rest
  unbroken : IsUnbroken inputs
  anyway : (rest : List ℕ) → HubRun (with_rest old n s rest) env (inputs_heard n inputs) told (with_rest new n t rest) after

unbroken_more : (halted : Bool) (s : Settings) (env : Env) (c : RepoState) (phase : Stage) (input : Input) (inputs : List Input) (a : Answer)
    → InputStep s env phase input halted c a → is_open a.phase ≡ true → IsUnbroken inputs → IsUnbroken (input ∷ inputs)
unbroken_more halted s env c phase (Whole t) inputs a step goes u = u
unbroken_more halted s env c phase Broken inputs a step goes u =
    let ended = broken_ends halted s env c phase a step in
    let bad : false ≡ true = sym (ap is_open ended) ∙ goes in
    cc

unbroken_both : (inputs others : List Input) → IsUnbroken inputs → IsUnbroken others → IsUnbroken (inputs ++ others)
unbroken_both [] others u v = v
unbroken_both (Whole t ∷ inputs) others u v = unbroken_both inputs others u v
unbroken_both (Broken ∷ inputs) others u v = absurd u

some_same : (s t : SessionState) → Some s ≡ Some t → s ≡ t
some_same s t e = cc

if_open : {A : Type 0} (b : Bool) (x y : A) → b ≡ true → (if b then x else y) ≡ x
if_open true x y e = refl
if_open false x y e = cc

if_ended : {A : Type 0} (b : Bool) (x y : A) → b ≡ false → (if b then x else y) ≡ y
if_ended false x y e = refl
if_ended true x y e = cc

-- the session after an answer that leaves it open
answered_open : (old : HubState) (n : ℕ) (s : SessionState) (a : Answer) (failures : ℕ) → is_open a.phase ≡ true
    → (answered old n s a failures).sessions ≡ updated old.sessions n (record { rest = s.rest; phase = a.phase })
answered_open old n s a failures goes = if_open (is_open a.phase) (updated old.sessions n (record { rest = s.rest; phase = a.phase })) (without old.sessions n) goes

-- it is the same answer with other bytes left
answered_anyway : (old : HubState) (n : ℕ) (s : SessionState) (a : Answer) (failures : ℕ) (rest : List ℕ) → is_open a.phase ≡ true
    → with_rest (answered old n s a failures) n (record { rest = s.rest; phase = a.phase }) rest ≡ answered (with_rest old n s rest) n (record { rest = rest; phase = s.phase }) a failures
answered_anyway old n s a failures rest goes =
    let here : SessionState = record { rest = rest; phase = a.phase } in
    let before : SessionState = record { rest = rest; phase = s.phase } in
    let sessions : updated (answered old n s a failures).sessions n here ≡ kept (updated old.sessions n before) n here =
    ap (λ (xs : List (ℕ × SessionState)). updated xs n here) (answered_open old n s a failures goes)
    ∙ updated_updated old.sessions n (record { rest = s.rest; phase = a.phase }) here
    ∙ sym (kept-updated old.sessions n before here ∙ if_open (is_open a.phase) (updated old.sessions n here) (without old.sessions n) goes) in
    ap (λ (xs : List (ℕ × SessionState)). record old { content = content_after old.content a.effect; halted = halted_after old.halted a.effect; failures = failures; pending = pending_after old.pending a.effect; sessions = xs }) sessions

-- an input more in front
goes_on : (n : ℕ) (input : Input) (inputs : List Input) (old : HubState) (s : SessionState) (env : Env) (told : List Reply) (new : HubState) (after : Env) (t : SessionState)
    → session_of old.sessions n ≡ Some s → session_of new.sessions n ≡ Some t
    → (first : List Reply) (mid : HubState) (between : Env) (more : List Reply)
    → (happens : InputHappens old env n (Some s) input first mid between) → HubRun mid between (inputs_heard n inputs) more new after → told ≡ first ++ more
    → ((x : SessionState) → session_of mid.sessions n ≡ Some x → Stays n mid x between inputs more new after t)
    → (is_open happens.0.phase ≡ true) ⊎ (is_open happens.0.phase ≡ false) → Stays n old s env (input ∷ inputs) told new after t
goes_on n input inputs old s env told new after t begins ends first mid between more (a, answers, told_is, env_is, failures, counts, mid_is) run is rest_stays (inl goes) =
    let here : SessionState = record { rest = s.rest; phase = a.phase } in
    let found : session_of mid.sessions n ≡ Some here =
    ap (λ (h : HubState). session_of h.sessions n) mid_is
    ∙ ap (λ (xs : List (ℕ × SessionState)). session_of xs n) (answered_open old n s a failures goes)
    ∙ session_of-updated old.sessions n s here begins in
    let later = rest_stays here found in
    record {
      rest_is = later.rest_is;
      unbroken = unbroken_more old.halted old.settings env old.content s.phase input inputs a answers goes later.unbroken;
      anyway = λ rest.
          let before : SessionState = record { rest = rest; phase = s.phase } in
          let there : with_rest mid n here rest ≡ answered (with_rest old n s rest) n before a failures =
          ap (λ (h : HubState). with_rest h n here rest) mid_is ∙ answered_anyway old n s a failures rest goes in
          let step : HubStep (with_rest old n s rest) env (Hears n input) first (with_rest mid n here rest) between =
          subst (λ (o : Option SessionState). InputHappens (with_rest old n s rest) env n o input first (with_rest mid n here rest) between)
          (sym (session_of-updated old.sessions n s before begins)) (a, answers, told_is, env_is, failures, counts, there) in
          (first, with_rest mid n here rest, between, more, step, later.anyway rest, is);
    }
goes_on n input inputs old s env told new after t begins ends first mid between more (a, answers, told_is, env_is, failures, counts, mid_is) run is rest_stays (inr ended) =
    let gone : session_of mid.sessions n ≡ None =
    ap (λ (h : HubState). session_of h.sessions n) mid_is
    ∙ ap (λ (xs : List (ℕ × SessionState)). session_of xs n)
    (if_ended (is_open a.phase) (updated old.sessions n (record { rest = s.rest; phase = a.phase })) (without old.sessions n) ended)
    ∙ session_of-without old.sessions n in
    let bad : None ≡ Some t = sym gone ∙ sym (ap (λ (h : HubState). session_of h.sessions n) (nothing_happens n inputs mid new between after more gone run)) ∙ ends in
    cc

stays : (n : ℕ) (inputs : List Input) (old : HubState) (s : SessionState) (env : Env) (told : List Reply) (new : HubState) (after : Env) (t : SessionState)
    → session_of old.sessions n ≡ Some s → session_of new.sessions n ≡ Some t → HubRun old env (inputs_heard n inputs) told new after → Stays n old s env inputs told new after t
stays n [] old s env told new after t begins ends run =
    let same : t ≡ s = some_same t s (sym ends ∙ ap (λ (h : HubState). session_of h.sessions n) run.1 ∙ begins) in
    record {
      rest_is = ap (λ (x : SessionState). x.rest) same;
      unbroken = tt;
      anyway = λ rest. (run.0, λ i. with_rest (run.1 i) n (same i) rest, run.2);
    }
stays n (input ∷ inputs) old s env told new after t begins ends (first, mid, between, more, step, run, is) =
    let happens : InputHappens old env n (Some s) input first mid between = subst (λ (o : Option SessionState). InputHappens old env n o input first mid between) begins step in
    goes_on n input inputs old s env told new after t begins ends first mid between more happens run is
    (λ x found. stays n inputs mid x between more new after t found ends run) (either_way (is_open happens.0.phase))

-- ---- pieces of a session that stays open

record AllStays (n : ℕ) (old : HubState) (s : SessionState) (pieces : List Piece) (told : List Reply) (new : HubState) (t : SessionState) : Type 0 where
  rest_is : t.rest ≡ s.rest
  unbroken : IsUnbroken (inputs_of pieces)
  anyway : (rest : List ℕ) → PiecesRun (with_rest old n s rest) n pieces told (with_rest new n t rest)

-- a piece more in front
a_piece_on : (n : ℕ) (piece : Piece) (pieces : List Piece) (old : HubState) (s : SessionState) (told : List Reply) (new : HubState) (t : SessionState)
    → session_of old.sessions n ≡ Some s → session_of new.sessions n ≡ Some t
    → (first : List Reply) (mid : HubState) (after : Env) (more : List Reply)
    → HubRun old piece.env (inputs_heard n piece.inputs) first mid after → PiecesRun mid n pieces more new → told ≡ first ++ more
    → ((x : SessionState) → session_of mid.sessions n ≡ Some x → AllStays n mid x pieces more new t)
    → ((x : SessionState) × (session_of mid.sessions n ≡ Some x)) ⊎ (session_of mid.sessions n ≡ None) → AllStays n old s (piece ∷ pieces) told new t
a_piece_on n piece pieces old s told new t begins ends first mid after more run later is rest_stays (inl (x, found)) =
    let here = stays n piece.inputs old s piece.env first mid after x begins found run in
    let on = rest_stays x found in
    record {
      rest_is = on.rest_is ∙ here.rest_is;
      unbroken = unbroken_both piece.inputs (inputs_of pieces) here.unbroken on.unbroken;
      anyway = λ rest. (inputs_heard n piece.inputs, first, with_rest mid n x rest, after, more, of_inputs n piece.inputs, here.anyway rest, on.anyway rest, is);
    }
a_piece_on n piece pieces old s told new t begins ends first mid after more run later is rest_stays (inr gone) =
    let bad : None ≡ Some t = sym gone ∙ sym (ap (λ (h : HubState). session_of h.sessions n) (no_piece_happens n pieces mid new more gone later)) ∙ ends in
    cc

all_stays : (n : ℕ) (pieces : List Piece) (old : HubState) (s : SessionState) (told : List Reply) (new : HubState) (t : SessionState)
    → session_of old.sessions n ≡ Some s → session_of new.sessions n ≡ Some t → PiecesRun old n pieces told new → AllStays n old s pieces told new t
all_stays n [] old s told new t begins ends run =
    let same : t ≡ s = some_same t s (sym ends ∙ ap (λ (h : HubState). session_of h.sessions n) run.1 ∙ begins) in
    record {
      rest_is = ap (λ (x : SessionState). x.rest) same;
      unbroken = tt;
      anyway = λ rest. (run.0, λ i. with_rest (run.1 i) n (same i) rest);
    }
all_stays n (piece ∷ pieces) old s told new t begins ends (events, first, mid, after, more, are, run, later, is) =
    a_piece_on n piece pieces old s told new t begins ends first mid after more
    (subst (λ (es : List Event). HubRun old piece.env es first mid after) (are_events_of n piece.inputs events are) run) later is
    (λ x found. all_stays n pieces mid x more new t found ends later) (some_or_none (session_of mid.sessions n))

-- ---- streams

-- one run after another
both_runs : (n : ℕ) (pieces others : List Piece) (old mid new : HubState) (told more : List Reply)
    → PiecesRun old n pieces told mid → PiecesRun mid n others more new → PiecesRun old n (pieces ++ others) (told ++ more) new
both_runs n [] others old mid new told more run next =
    subst (λ (h : HubState). PiecesRun h n others (told ++ more) new) run.1
    (subst (λ (rs : List Reply). PiecesRun mid n others rs new) (sym (ap (λ (rs : List Reply). rs ++ more) run.0)) next)
both_runs n (piece ∷ pieces) others old mid new told more (events, first, between, after, rest, are, run, later, is) next = (
  events,
  first,
  between,
  after,
  rest ++ more,
  are,
  run,
  both_runs n pieces others between mid new rest more later next,
  ap (λ (rs : List Reply). rs ++ more) is ∙ append_assoc first rest more,
)

-- a piece is a stream of its own
of_piece : (old : HubState) (env : Env) (n : ℕ) (bytes out : List ℕ) (new : HubState) → 0 < length bytes → length bytes ≤ 65536 → (f : Feeds old env n bytes out new)
    → StreamRun old n (fed_piece env bytes f.inputs ∷ []) out new
of_piece old env n bytes out new some bound f = record {
  session = f.session;
  is_session = f.is_session;
  rest = f.rest;
  yields = subst (λ (xs : List ℕ). Yields (f.session.rest ++ xs) (f.inputs ++ []) f.rest) (sym (append-nil bytes))
      (subst (λ (inputs : List Input). Yields (f.session.rest ++ bytes) inputs f.rest) (sym (append-nil f.inputs)) f.yields);
  cut = (some, bound, f.rest, f.yields, refl);
  settled = f.settled;
  told = f.told;
  run = (f.events, f.told, new, f.env_after, [], f.events_are, f.run, (refl, refl), sym (append-nil f.told));
  written = f.written;
}

-- two streams of a session, one after the other, are one
joined : (old mid new : HubState) (n : ℕ) (pieces others : List Piece) (out more : List ℕ)
    → StreamRun old n pieces out mid → StreamRun mid n others more new → StreamRun old n (pieces ++ others) (out ++ more) new
joined old mid new n pieces others out more x y =
    let before : SessionState = record { rest = x.rest; phase = x.session.phase } in
    let known : session_of (with_rest old n x.session x.rest).sessions n ≡ Some before = session_of-updated old.sessions n x.session before x.is_session in
    let kept_open = all_stays n pieces (with_rest old n x.session x.rest) before x.told mid y.session known y.is_session x.run in
    let start : with_rest (with_rest old n x.session x.rest) n before y.rest ≡ with_rest old n x.session y.rest =
    ap (λ (xs : List (ℕ × SessionState)). record old { sessions = xs }) (updated_updated old.sessions n before (record { rest = y.rest; phase = x.session.phase })) in
    let run : PiecesRun (with_rest old n x.session y.rest) n pieces x.told (with_rest mid n y.session y.rest) =
    subst (λ (h : HubState). PiecesRun h n pieces x.told (with_rest mid n y.session y.rest)) start (kept_open.anyway y.rest) in
    let onward : Yields (x.rest ++ bytes_of others) (inputs_of others) y.rest =
    subst (λ (r : List ℕ). Yields (r ++ bytes_of others) (inputs_of others) y.rest) kept_open.rest_is y.yields in
    let bytes : (x.session.rest ++ bytes_of pieces) ++ bytes_of others ≡ x.session.rest ++ bytes_of (pieces ++ others) =
    append_assoc x.session.rest (bytes_of pieces) (bytes_of others) ∙ ap (λ (bs : List ℕ). x.session.rest ++ bs) (sym (flat_map-append _ pieces others)) in
    let whole : Yields ((x.session.rest ++ bytes_of pieces) ++ bytes_of others) (inputs_of pieces ++ inputs_of others) y.rest =
    yields_more (x.session.rest ++ bytes_of pieces) (bytes_of others) (inputs_of pieces) (inputs_of others) x.rest y.rest kept_open.unbroken x.yields onward in
    let in_a_row : inputs_of pieces ++ inputs_of others ≡ inputs_of (pieces ++ others) = sym (flat_map-append _ pieces others) in
    record {
      session = x.session;
      is_session = x.is_session;
      rest = y.rest;
      yields = subst (λ (inputs : List Input). Yields (x.session.rest ++ bytes_of (pieces ++ others)) inputs y.rest) in_a_row
          (subst (λ (stream : List ℕ). Yields stream (inputs_of pieces ++ inputs_of others) y.rest) bytes whole);
      cut = both_cuts pieces others x.session.rest x.rest y.rest x.cut (subst (λ (r : List ℕ). ComesInPieces r others y.rest) kept_open.rest_is y.cut);
      settled = y.settled;
      told = x.told ++ y.told;
      run = both_runs n pieces others (with_rest old n x.session y.rest) (with_rest mid n y.session y.rest) new x.told y.told run y.run;
      written = (λ i. x.written i ++ y.written i) ∙ sym (flat_map-append _ x.told y.told);
    }

-- a piece more, at the end
pub draws_more : (n : ℕ) (old mid new : HubState) (env : Env) (pieces : List Piece) (out bytes more : List ℕ)
    → 0 < length bytes → length bytes ≤ 65536 → Draws old n pieces out mid → (f : Feeds mid env n bytes more new)
    → Draws old n (pieces ++ fed_piece env bytes f.inputs ∷ []) (out ++ more) new
draws_more n old mid new env [] out bytes more some bound draws f =
    subst (λ (o : List ℕ). StreamRun old n (fed_piece env bytes f.inputs ∷ []) o new) (sym (ap (λ (o : List ℕ). o ++ more) draws.0))
    (subst (λ (h : HubState). StreamRun h n (fed_piece env bytes f.inputs ∷ []) more new) draws.1 (of_piece mid env n bytes more new some bound f))
draws_more n old mid new env (piece ∷ pieces) out bytes more some bound draws f =
    joined old mid new n (piece ∷ pieces) (fed_piece env bytes f.inputs ∷ []) out more draws (of_piece mid env n bytes more new some bound f)
