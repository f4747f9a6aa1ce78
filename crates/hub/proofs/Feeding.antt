-- What one piece does to the hub.
use Rattle.std.proofs.{Common.{◌≡◌, ℕ, List, ◌++◌, Option, Some, Bool, true, false, refl, sym, ap, subst, ◌∙◌}, lemmas.Option.get_or_from_slice_get}
use Rattle.std.specs.Prelude.{if◌then◌else◌, get_or, slice_set}
use Rattle.repo_api.specs.States.{IsBeginning}
use Rattle.wire_replies.specs.Replies.{print}
use Rattle.wire_replies.proofs.Parts.{part_first}
use Rattle.access.specs.Points.{AccessRules, content_of, Point}
use Rattle.machine.specs.{Hearing.HasNoMore, Settings.Settings, Stages.{is_open, SessionState, StandsOn}, Steps.{FeedLost, FeedWritten}, declared.env.Env.Env}
use Rattle.hub.specs.Runs.{BreaksOff, ends_of, Feeds, HubRun, IfOpen, with_rest}
use Rattle.hub.specs.SessionLaws.{kept-updated, session_of-updated, session_of-without, without-updated}
use Rattle.hub.specs.State.{AllOpen, Finds, HasTrees, hub_at, HubState, kept, session_of, updated, without}
use Rattle.hub.proofs.Places.{without-kept, settled, kept_ended}
use Rattle.hub.proofs.Composing.{StandsAlone, AddsOwn, holds_open, holds_kept, events_of, inputs_are, composed, ends, runs_on}
use Rattle.hub.proofs.Everywhere.{AllOpen-at, AllOpen-kept, HasTrees-at, HasTrees-kept}

if_open : (xs : List (ℕ × SessionState)) (n : ℕ) (session s' : SessionState) (rest : List ℕ) → session_of xs n ≡ Some session
    → (is_open s'.phase ≡ true → HasNoMore rest) → IfOpen (session_of (kept xs n s') n) rest
if_open xs n session s' rest h settled = by (is_open s'.phase) refl
  where
    by : (b : Bool) → is_open s'.phase ≡ b → IfOpen (session_of (if b then updated xs n s' else without xs n) n) rest
    by true e = subst (λ (o : Option SessionState). IfOpen o rest) (sym (session_of-updated xs n session s' h)) (settled e)
    by false e = subst (λ (o : Option SessionState). IfOpen o rest) (sym (session_of-without xs n)) tt

-- ---- the session at its place

-- the entry has the number, and its session, which is open
pub record IsEntry (xs : List (ℕ × SessionState)) (n : ℕ) (entry : ℕ × SessionState) : Type 0 where
  pub number : entry.0 ≡ n
  pub found : session_of xs n ≡ Some entry.1
  pub lives : is_open entry.1.phase ≡ true

pub finds_here : (h old : HubState) (n i : ℕ) → h ≡ old → Finds old.sessions n i → Finds h.sessions n i
finds_here h old n i is f = subst (λ (x : HubState). Finds x.sessions n i) (sym is) f

pub is_entry : (h old : HubState) (n i : ℕ) (entry : ℕ × SessionState)
    → h ≡ old → AllOpen h.sessions → Finds old.sessions n i → entry ≡ get_or h.sessions i entry → IsEntry h.sessions n entry
is_entry h old n i entry view lives finds at =
    let f = finds_here h old n i view finds in
    let e : entry ≡ (n, f.session) = at ∙ get_or_from_slice_get h.sessions i (n, f.session) entry f.at in
    let found : session_of h.sessions n ≡ Some entry.1 = f.is ∙ ap (λ (x : ℕ × SessionState). Some x.1) (sym e) in
    record { number = ap (λ (x : ℕ × SessionState). x.0) e; found = found; lives = AllOpen-at h.sessions n entry.1 lives found }

pub entry_rests : (h : HubState) (n : ℕ) (entry : ℕ × SessionState) → HasTrees h → IsEntry h.sessions n entry → StandsOn entry.1.phase h.content
entry_rests h n entry trees e = HasTrees-at h n entry.1 trees e.found

-- ---- a piece that it was fed

-- what a session was fed: where the repository was and is, and the sessions before and after it
pub record Feed : Type 0 where
  pub number : ℕ
  pub piece : List ℕ
  pub env : Env
  pub at : Point
  pub at_after : Point
  pub session : SessionState
  pub session_after : SessionState
  pub sessions : List (ℕ × SessionState)
  pub sessions_after : List (ℕ × SessionState)
  pub used : ℕ

abbrev pub hub_before : Settings → Feed → HubState
hub_before s f = hub_at s f.at f.sessions f.used

abbrev pub hub_after : Settings → Feed → HubState
hub_after s f = hub_at s f.at_after f.sessions_after f.used

-- the session was open, and was dropped where it has ended
pub record IsFed (s : Settings) (old : HubState) (f : Feed) : Type 0 where
  pub view : hub_before s f ≡ old
  pub found : session_of f.sessions f.number ≡ Some f.session
  pub lives : is_open f.session.phase ≡ true
  pub after : f.sessions_after ≡ kept f.sessions f.number f.session_after

pub is_fed : (s : Settings) (old : HubState) (f : Feed) (i m : ℕ) (b : Bool)
    → hub_before s f ≡ old → IsEntry f.sessions f.number (m, f.session) → Finds old.sessions f.number i
    → b ≡ is_open f.session_after.phase
    → f.sessions_after ≡ (if b then slice_set f.sessions i (m, f.session_after) else without (slice_set f.sessions i (m, f.session_after)) f.number)
    → IsFed s old f
is_fed s old f i m b view e finds lives after = record {
  view = view;
  found = e.found;
  lives = e.lives;
  after = settled f.sessions f.sessions_after f.number i m f.session_after b (finds_here (hub_before s f) old f.number i view finds) e.number lives after;
}

module _ (rules : AccessRules) (s : Settings) (alone : StandsAlone rules) (counts : AddsOwn rules) (old : HubState) (f : Feed) (writes : List ℕ → Type 0) where
  abbrev pub Written : Type 0
  Written = FeedWritten rules s f.env f.at f.session.phase (f.session.rest ++ f.piece) f.session_after.rest f.at_after f.session_after.phase writes

  abbrev pub Lost : Type 0
  Lost = FeedLost rules s f.env f.at f.session.phase (f.session.rest ++ f.piece) f.at_after writes

  feeds_here : IsFed s old f → (fed : Written) → Feeds (hub_before s f) f.env f.number f.piece (print fed.told) (hub_after s f)
  feeds_here is fed =
      let xs = f.sessions in
      let n = f.number in
      let s' = f.session_after in
      let h : SessionState = record { rest = s'.rest; phase = f.session.phase } in
      let ys = updated xs n h in
      let run = composed rules s alone counts ys f.used n s'.rest f.env f.at f.session.phase fed.inputs fed.told fed.env_after f.at_after s'.phase
      (holds_open ys n s'.rest f.session.phase is.lives (session_of-updated xs n f.session h is.found)) fed.run in
      let same : kept ys n s' ≡ f.sessions_after = kept-updated xs n h s' ∙ sym is.after in
      record {
        session = f.session;
        is_session = is.found;
        inputs = fed.inputs;
        rest = s'.rest;
        yields = fed.yields;
        settled = subst (λ (zs : List (ℕ × SessionState)). IfOpen (session_of zs n) s'.rest) (sym is.after) (if_open xs n f.session s' s'.rest is.found fed.settled);
        events = events_of n fed.inputs;
        events_are = inputs_are n fed.inputs;
        told = fed.told;
        env_after = fed.env_after;
        run = subst (λ (zs : List (ℕ × SessionState)). HubRun (with_rest (hub_before s f) n f.session s'.rest) f.env (events_of n fed.inputs) fed.told (hub_at s f.at_after zs f.used) fed.env_after) same run;
        written = refl;
      }

  pub fed_feeds : IsFed s old f → Written → (told : List ℕ) × Feeds old f.env f.number f.piece told (hub_after s f) × writes told
  fed_feeds is fed =
      (print fed.told, subst (λ (h : HubState). Feeds h f.env f.number f.piece (print fed.told) (hub_after s f)) is.view (feeds_here is fed), fed.written)

  breaks_here : IsFed s old f → is_open f.session_after.phase ≡ false → Lost → BreaksOff (hub_before s f) f.env f.number f.piece (hub_after s f) writes
  breaks_here is ended lost =
      let xs = f.sessions in
      let n = f.number in
      let h : SessionState = record { rest = lost.rest; phase = f.session.phase } in
      let t : SessionState = record { rest = lost.rest; phase = lost.phase_after } in
      let ys = updated xs n h in
      let here = session_of-updated xs n f.session h is.found in
      let run = composed rules s alone counts ys f.used n lost.rest f.env f.at f.session.phase lost.inputs lost.told lost.env_after lost.point_after lost.phase_after
      (holds_open ys n lost.rest f.session.phase is.lives here) lost.run in
      let gone : f.sessions_after ≡ without (kept ys n t) n =
      is.after ∙ kept_ended xs n f.session_after ended ∙ sym (without-kept ys n t ∙ without-updated xs n h) in
      let mid = hub_at s lost.point_after (kept ys n t) f.used in
      let last = ends rules s alone counts (kept ys n t) f.sessions_after f.used n lost.rest lost.env_after lost.point_after lost.phase_after lost.left f.at_after
      (holds_kept ys n lost.rest h lost.phase_after here) gone lost.leaves in
      record {
        breaks = record {
          session = f.session;
          is_session = is.found;
          inputs = lost.inputs;
          left = lost.left;
          rest = lost.rest;
          yields = lost.yields;
          events = events_of n lost.inputs;
          events_are = inputs_are n lost.inputs;
          told = lost.told ++ last.told;
          env_after = last.after;
          run = runs_on (with_rest (hub_before s f) n f.session lost.rest) mid (hub_after s f) f.env lost.env_after last.after (events_of n lost.inputs) (ends_of n lost.left) lost.told last.told run last.run;
        };
        written = part_first writes lost.told last.told lost.written;
      }

  pub lost_breaks : IsFed s old f → is_open f.session_after.phase ≡ false → Lost → BreaksOff old f.env f.number f.piece (hub_after s f) writes
  lost_breaks is ended lost =
      subst (λ (h : HubState). BreaksOff h f.env f.number f.piece (hub_after s f) writes) is.view (breaks_here is ended lost)

-- what holds of the hub and its sessions holds on
pub fed_holds : (s : Settings) (old : HubState) (f : Feed) → IsFed s old f
    → AllOpen f.sessions → HasTrees (hub_before s f)
    → IsBeginning (content_of f.at).revisions (content_of f.at_after).revisions → StandsOn f.session_after.phase (content_of f.at_after)
    → AllOpen f.sessions_after × HasTrees (hub_after s f)
fed_holds s old f is lives trees later rests = (
  subst AllOpen (sym is.after) (AllOpen-kept f.sessions f.number f.session_after lives),
  HasTrees-kept (hub_before s f) (hub_after s f) f.number f.session_after trees later rests is.after,
)
