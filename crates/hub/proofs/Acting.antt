-- What an event does to the repository.
use Rattle.std.proofs.Common.{◌≡◌, ◌⊎◌, inl, inr, ℕ, ◌||◌, List, [], ◌∷◌, Bool, true, false, Option, Some, None, refl, sym, ap, subst, ◌∙◌}
use Rattle.std.proofs.lemmas.Bool.{true≢false}
use Rattle.repo_api.specs.{Accepted.{Accepted, changed_all, IsAccepted}, Accepted.Accepted.Commits, States.RepoState}
use Rattle.wire_replies.specs.declared.reply.Reply.{Reply}
use Rattle.machine.specs.{Answers.{Answer, content_after, Counts, is_halt, pending_by, Verdict}, Answers.Verdict.{NotWritten, Unknown, Written}, Hearing.Input}
use Rattle.machine.specs.{Machine.{InputStep, UnreleasedStep}, Settings.Settings, Soundness.MeetBy, Stages.{SessionState, Stage, StandsOn}}
use Rattle.machine.specs.declared.env.Env.{Env}
use Rattle.hub.specs.{State.{HubState, HasTrees, session_of}, Runs.{Event, InputHappens, CommitLeaves, HubStep}}
use Rattle.hub.specs.{Runs.Event.{Connects, HandsIn, Hears, Leaves, Drops}, Asked.{IsAsked, IsAskedIn, IsAskedAt, AreAll}, Laws.{IsTold, UsesWord}}
use Rattle.hub.specs.Done.{GoesOnBy, HasFailed, LeavesWords, Tells, NamesHalt}
use Rattle.hub.proofs.{Effects.{ArePlain, Halts, all_on, fails_by, halts_as, does, leaves, or_false}, Everywhere.HasTrees-at, Revising.AreOthers}

-- each step of a session keeps what it stands on, and its changes meet the trees well
abbrev pub StepsKeepTrees : Type 0
StepsKeepTrees =
    (halted : Bool) (s : Settings) (env : Env) (c : RepoState) (phase : Stage) (input : Input) (a : Answer)
    → StandsOn phase c → InputStep s env phase input halted c a → StandsOn a.phase (content_after c a.effect) × MeetBy c a.effect.changes

abbrev pub UnreleasedKeepTrees : Type 0
UnreleasedKeepTrees =
    (halted : Bool) (env : Env) (c : RepoState) (phase : Stage) (input : Input) (a : Answer)
    → StandsOn phase c → UnreleasedStep env phase input halted c a → StandsOn a.phase (content_after c a.effect) × MeetBy c a.effect.changes

abbrev pub KeepTrees : Type 0
KeepTrees = StepsKeepTrees × UnreleasedKeepTrees

-- the changes of an event, and all that is known of them
pub record Acts (old : HubState) (env : Env) (event : Event) (told : List Reply) (new : HubState) (after : Env) : Type 0 where
  pub changes : List Accepted
  pub own : AreAll (IsAskedAt old env event) changes
  pub on : GoesOnBy old.content changes new.content
  pub failed : Bool
  pub counted : HasFailed old failed new
  pub tells : Tells old.content failed event changes told
  pub words : LeavesWords env event changes after
  pub closed : old.settings.revprops ≡ false → AreOthers changes
  pub plain : (changes ≡ []) ⊎ ((old.halted ≡ false) × ArePlain told)
  pub halt : NamesHalt old env event new
  pub stays_halted : old.halted ≡ true → (new.halted ≡ true) × (new.pending ≡ old.pending)
  pub meet : KeepTrees → HasTrees old → MeetBy old.content changes

-- what is known of an event that neither changes anything nor brings it to a halt
acts_nothing : (old : HubState) (env : Env) (event : Event) (told : List Reply) (new : HubState) (after : Env)
    → new.content ≡ old.content → new.halted ≡ old.halted → new.failures ≡ old.failures → new.pending ≡ old.pending
    → Tells old.content false event [] told → LeavesWords env event [] after → Acts old env event told new after
acts_nothing old env event told new after same halted failures pending tells words = record {
  changes = [];
  own = tt;
  on = record { accepted = tt; is = same };
  failed = false;
  counted = (failures, halted);
  tells = tells;
  words = words;
  closed = λ shut. tt;
  plain = inl refl;
  halt = λ ran halts. absurd (true≢false (sym halts ∙ halted ∙ ran));
  stays_halted = λ h. (halted ∙ h, pending);
  meet = λ keeps trees. tt;
}

-- where the store fails so that nobody knows, the change is known
names : (P : Accepted → Type 0) (old : HubState) (new : HubState) (v : Verdict) → new.halted ≡ (old.halted || is_halt v) → new.pending ≡ pending_by old.pending v
    → Halts P old.halted new.content v → old.halted ≡ false → new.halted ≡ true → (e : Accepted) × (new.pending ≡ Some e) × P e × IsAccepted new.content e
names P old new Written halted pending known ran halts = let off : false ≡ true = sym (halted ∙ ap (λ (b : Bool). b || false) ran) ∙ halts in cc
names P old new NotWritten halted pending known ran halts = let off : false ≡ true = sym (halted ∙ ap (λ (b : Bool). b || false) ran) ∙ halts in cc
names P old new (Unknown e) halted pending (running, one, accepted) ran halts = (e, pending, one, accepted)

stays : (P : Accepted → Type 0) (old : HubState) (new : HubState) (v : Verdict) → new.halted ≡ (old.halted || is_halt v) → new.pending ≡ pending_by old.pending v
    → Halts P old.halted new.content v → old.halted ≡ true → (new.halted ≡ true) × (new.pending ≡ old.pending)
stays P old new Written halted pending known h = (halted ∙ ap (λ (b : Bool). b || false) h, pending)
stays P old new NotWritten halted pending known h = (halted ∙ ap (λ (b : Bool). b || false) h, pending)
stays P old new (Unknown e) halted pending (running, one, accepted) h = absurd (true≢false (sym h ∙ running))

-- a failure is counted
counted_by : (v : Verdict) (old new : HubState) → Counts v old.failures new.failures → new.halted ≡ (old.halted || is_halt v) → HasFailed old (fails_by v) new
counted_by Written old new counts halted = (counts, halted ∙ or_false old.halted)
counted_by NotWritten old new counts halted = counts
counted_by (Unknown e) old new counts halted = counts

acts_input : (old : HubState) (env : Env) (n : ℕ) (o : Option SessionState) (input : Input) (told : List Reply) (new : HubState) (after : Env)
    → session_of old.sessions n ≡ o → InputHappens old env n o input told new after → Acts old env (Hears n input) told new after
acts_input old env n None input told new after found h =
    acts_nothing old env (Hears n input) told new after (ap (λ (x : HubState). x.content) h.1) (ap (λ (x : HubState). x.halted) h.1) (ap (λ (x : HubState). x.failures) h.1) (ap (λ (x : HubState). x.pending) h.1) tt
    (ap (λ (x : Env). x.token) h.2)
acts_input old env n (Some s) input told new after found (a, step, is_told, left, failures, counts, is) =
    let d = does old.halted old.settings env old.content s.phase input a step in
    let es = a.effect.changes in
    let asked : (e : Accepted) → IsAsked old.settings env s.phase input e → IsAskedAt old env (Hears n input) e =
    λ e one. subst (λ (x : Option SessionState). IsAskedIn old.settings env x input e) (sym found) one in
    let content : new.content ≡ content_after old.content a.effect = ap (λ (x : HubState). x.content) is in
    let halted : new.halted ≡ (old.halted || is_halt a.effect.store) = ap (λ (x : HubState). x.halted) is in
    let pending : new.pending ≡ pending_by old.pending a.effect.store = ap (λ (x : HubState). x.pending) is in
    let halt = subst (λ (c : RepoState). Halts (IsAskedAt old env (Hears n input)) old.halted c a.effect.store) (sym content)
    (halts_as (IsAsked old.settings env s.phase input) (IsAskedAt old env (Hears n input)) old.halted (content_after old.content a.effect) a.effect.store asked d.halt) in
    record {
      changes = es;
      own = all_on (IsAsked old.settings env s.phase input) (IsAskedAt old env (Hears n input)) es asked d.own;
      on = record { accepted = d.accepted; is = content };
      failed = fails_by a.effect.store;
      counted = counted_by a.effect.store old new
          (subst (λ (x : ℕ). Counts a.effect.store old.failures x) (sym (ap (λ (x : HubState). x.failures) is)) counts) halted;
      tells = subst (λ (x : List Reply). IsTold old.content (fails_by a.effect.store) es x) (sym is_told) d.told;
      words = subst (λ (x : Env). UsesWord env es x) (sym left) d.words;
      closed = d.closed;
      plain = subst (λ (x : List Reply). (es ≡ []) ⊎ ((old.halted ≡ false) × ArePlain x)) (sym is_told) d.plain;
      halt = names (IsAskedAt old env (Hears n input)) old new a.effect.store halted pending halt;
      stays_halted = stays (IsAskedAt old env (Hears n input)) old new a.effect.store halted pending halt;
      meet = λ keeps trees. (keeps.0 old.halted old.settings env old.content s.phase input a (HasTrees-at old n s trees found) step).1;
    }

acts_leaving : (old : HubState) (env : Env) (n : ℕ) (o : Option SessionState) (input : Input) (told : List Reply) (new : HubState) (after : Env)
    → session_of old.sessions n ≡ o → CommitLeaves old env n o input told new after → Acts old env (Leaves n input) told new after
acts_leaving old env n None input told new after found h = absurd h
acts_leaving old env n (Some s) input told new after found (a, step, is_told, left, failures, counts, is) =
    let (ask, t, running, asked, accepted, wanted, same) = leaves old.halted old.settings env old.content s.phase input a step in
    let none : told ≡ [] = is_told ∙ ap (λ (x : Answer). x.replies) same in
    let content : new.content ≡ changed_all old.content (Commits ask t ∷ []) = ap (λ (x : HubState). x.content) is ∙ ap (λ (x : Answer). content_after old.content x.effect) same in
    let halted : new.halted ≡ (old.halted || false) = ap (λ (x : HubState). x.halted) is ∙ ap (λ (x : Answer). old.halted || is_halt x.effect.store) same in
    let pending : new.pending ≡ old.pending = ap (λ (x : HubState). x.pending) is ∙ ap (λ (x : Answer). pending_by old.pending x.effect.store) same in
    record {
      changes = Commits ask t ∷ [];
      own = (subst (λ (x : Option SessionState). IsAskedIn old.settings env x input (Commits ask t)) (sym found) asked, tt);
      on = record { accepted = (accepted, tt); is = content };
      failed = false;
      counted = (
        ap (λ (x : HubState). x.failures) is ∙ subst (λ (x : Answer). Counts x.effect.store old.failures failures) same counts,
        halted ∙ or_false old.halted,
      );
      tells = (none, (ask, t, refl, wanted));
      words = left ∙ ap (λ (x : Answer). x.env) same;
      closed = λ shut. (tt, tt);
      plain = inr (running, subst ArePlain (sym none) tt);
      halt = names (IsAskedAt old env (Leaves n input)) old new Written halted pending tt;
      stays_halted = stays (IsAskedAt old env (Leaves n input)) old new Written halted pending tt;
      meet = λ keeps trees.
          subst (λ (es : List Accepted). MeetBy old.content es) (ap (λ (x : Answer). x.effect.changes) same)
          (keeps.1 old.halted env old.content s.phase input a (HasTrees-at old n s trees found) step).1;
    }

pub acts : (old new : HubState) (env after : Env) (e : Event) (told : List Reply) → HubStep old env e told new after → Acts old env e told new after
acts old new env after (Connects n) told h =
    acts_nothing old env (Connects n) told new after (ap (λ (x : HubState). x.content) h.3) (ap (λ (x : HubState). x.halted) h.3) (ap (λ (x : HubState). x.failures) h.3) (ap (λ (x : HubState). x.pending) h.3) tt h.2
acts old new env after (HandsIn words) told h =
    acts_nothing old env (HandsIn words) told new after (ap (λ (x : HubState). x.content) h.1) (ap (λ (x : HubState). x.halted) h.1) (ap (λ (x : HubState). x.failures) h.1) (ap (λ (x : HubState). x.pending) h.1) tt h.2
acts old new env after (Hears n input) told h = acts_input old env n (session_of old.sessions n) input told new after refl h
acts old new env after (Leaves n input) told h = acts_leaving old env n (session_of old.sessions n) input told new after refl h
acts old new env after (Drops n) told h =
    acts_nothing old env (Drops n) told new after (ap (λ (x : HubState). x.content) h.2) (ap (λ (x : HubState). x.halted) h.2) (ap (λ (x : HubState). x.failures) h.2) (ap (λ (x : HubState). x.pending) h.2) tt h.1
