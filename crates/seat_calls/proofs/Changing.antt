-- A change that a keeper makes.
use Rattle.std.proofs.Common.{◌≡◌, ℕ, List, [], ◌∷◌, arith, length-append, Bool, true, false, not, ◌&&◌, true≢false, length, Option, Some, None, Ok, Err, inl}
use Rattle.std.proofs.Common.{inr, ⊎_elim, refl, ◌∙◌, ap, sym, subst}
use Rattle.std.specs.Prelude.{Result}
use Rattle.repo_api.specs.Accepted.{Accepted, changed, IsAccepted, IsJudged, refusal_of}
use Rattle.repo_api.specs.{Accepted.Accepted.{ChangesProperty, Commits, Locks, Releases, Unlocks}, Commits.{committed, next_tree}}
use Rattle.repo_api.specs.{Locking.{HandedTokens, releases}, Soundness.AreSound, States.{RepoState, TxnState, youngest}, declared.ask.CommitAsk.CommitAsk}
use Rattle.repo_api.specs.declared.fault.ChangeFault.{ChangeFault}
use Rattle.repo_api.specs.declared.fault.ChangeFault.TheVariants as faults
use Rattle.refusals.specs.declared.Refusal.{Refusal}
use Rattle.access.specs.{Changing.{ChangesAt, IsHalt, ReleasesAfter, ReplacesAt, wants_release}, Handed.IsHandedIn, Points.{content_of, Point}}
use Rattle.access.specs.{Refused.IfRefusal, declared.access.Released.Released, declared.access.Released.TheVariants.{Settled, NoMemory, StoreFailed}}
use Rattle.access.specs.declared.handed.Handed.{Handed}
use Rattle.published.specs.{Changes.IsRight, Moments.{added, shared_rules}, Files.Kept}
use Rattle.archives.specs.Archives.{IsMade, IsNext}
use Rattle.keepers.specs.{Settling.SettlesTo, Standing.{Standing, IsSteady, now_of, NotBegun}}
use Rattle.keepers.proofs.Keeping.{sound_now}
use Rattle.seat_calls.specs.Releasing.{ReleasesTo, ReleasesHanded}

abbrev is_commit : Accepted → Bool
is_commit (Commits ask t) = true
is_commit (Locks ask) = false
is_commit (Unlocks ask) = false
is_commit (Releases user tokens) = false
is_commit (ChangesProperty ask) = false

-- a change of locks or of a property is right wherever the rules accept it
pub quiet_right : (c : RepoState) (e : Accepted) → is_commit e ≡ false → AreSound c.revisions → IsAccepted c e → IsRight c e
quiet_right c (Commits ask t) quiet s a = absurd (true≢false quiet)
quiet_right c (Locks ask) quiet s a = record { accepted = a; meets = λ x t is. absurd (cc is); sound = s }
quiet_right c (Unlocks ask) quiet s a = record { accepted = a; meets = λ x t is. absurd (cc is); sound = s }
quiet_right c (Releases user tokens) quiet s a = record { accepted = a; meets = λ x t is. absurd (cc is); sound = s }
quiet_right c (ChangesProperty ask) quiet s a = record { accepted = a; meets = λ x t is. absurd (cc is); sound = s }

-- what a change that was asked for has led to, if it was no commit
pub settled_all : (p q : Point) (refusal : Option Refusal) (e : Accepted) (r : Result (Unit {0}) ChangeFault)
    → p.halted ≡ false → refusal ≡ None → SettlesTo e p r q → ReplacesAt shared_rules refusal e p r q
settled_all p q refusal e (Ok x) running none s = (running, none, s)
settled_all p q refusal e (Err (faults.Refused r)) running none s = absurd s
settled_all p q refusal e (Err faults.StoreFailed) running none s = (running, none, s)
settled_all p q refusal e (Err faults.Halted) running none s = inr (running, none, s)
settled_all p q refusal e (Err faults.NoMemory) running none s = s

-- and a commit that was not saved
pub commit_fails : {T : Type 0} (p q : Point) (refusal : Option Refusal) (e : Accepted) (Made : T → Point → Type 0) (fault : ChangeFault)
    → p.halted ≡ false → refusal ≡ None → SettlesTo e p (Err fault) q → ChangesAt refusal e Made p (Err fault) q
commit_fails p q refusal e Made (faults.Refused r) running none s = absurd s
commit_fails p q refusal e Made faults.StoreFailed running none s = (running, none, s)
commit_fails p q refusal e Made faults.Halted running none s = inr (running, none, s)
commit_fails p q refusal e Made faults.NoMemory running none s = s

-- which is then no refusal
pub unsaved_unrefused : (p q : Point) (e : Accepted) (P : Type 0) (fault : ChangeFault) → SettlesTo e p (Err fault) q → IfRefusal fault P
unsaved_unrefused p q e P (faults.Refused r) s = absurd s
unsaved_unrefused p q e P faults.StoreFailed s = tt
unsaved_unrefused p q e P faults.Halted s = tt
unsaved_unrefused p q e P faults.NoMemory s = tt

-- nor is why a change was not begun
pub unbegun_unrefused : {S : Type 0} (kept : S → Kept) (k : Standing S) (P : Type 0) (fault : ChangeFault) → NotBegun kept fault k → IfRefusal fault P
unbegun_unrefused kept k P (faults.Refused r) why = absurd why
unbegun_unrefused kept k P faults.StoreFailed why = tt
unbegun_unrefused kept k P faults.Halted why = tt
unbegun_unrefused kept k P faults.NoMemory why = tt

module _ {S : Type 0} (kept : S → Kept) (stands : S → List RepoState → Type 0) (k : Standing S) (n : ℕ) (steady : IsSteady kept stands k) where
  -- a change that was not begun
  pub not_begun : {T : Type 0} (refusal : Option Refusal) (e : Accepted) (Made : T → Point → Type 0) (fault : ChangeFault)
      → NotBegun kept fault k → ChangesAt refusal e Made (now_of n k) (Err fault) (now_of n k)
  not_begun refusal e Made (faults.Refused r) why = absurd why
  not_begun refusal e Made faults.StoreFailed why = absurd why
  not_begun refusal e Made faults.Halted why = inl (sym steady.agrees.halted ∙ why, refl)
  not_begun refusal e Made faults.NoMemory why = refl

  module _ (running : (kept k.archive).halted ≡ false) where
    here : (now_of n k).halted ≡ false
    here = sym steady.agrees.halted ∙ running

    -- a change that was refused, or lacked memory, before it was saved
    pub refused : (U : Type 0) {T : Type 0} (e : Accepted) (Made : T → Point → Type 0) (fault : ChangeFault)
        → IsJudged {T = U} (Err fault) (refusal_of (kept k.archive).content e)
        → ChangesAt (refusal_of (content_of (now_of n k)) e) e Made (now_of n k) (Err fault) (now_of n k)
    refused U e Made (faults.Refused r) why =
        (here, subst (λ (c : RepoState). refusal_of c e ≡ Some r) (steady.agrees.content running) why.1, refl)
    refused U e Made faults.StoreFailed why = absurd why.2
    refused U e Made faults.Halted why = absurd why.2
    refused U e Made faults.NoMemory why = refl

    -- what the archive has made is accepted where the keeper stands
    pub accepted_now : (e : Accepted) (d : RepoState) → IsMade (kept k.archive).content e d → IsAccepted (content_of (now_of n k)) e
    accepted_now e d made = subst (λ (c : RepoState). IsAccepted c e) (steady.agrees.content running) made.accepted

    -- and is what comes next
    pub next_by : (e asked : Accepted) (d : RepoState) → IsMade (kept k.archive).content e d → asked ≡ e
        → (AreSound (content_of (now_of n k)).revisions → IsAccepted (content_of (now_of n k)) e → IsRight (content_of (now_of n k)) e)
        → IsNext k.content asked d
    next_by e asked d made is right =
        let there : content_of (now_of n k) ≡ k.content = sym steady.content in
        subst (λ (x : Accepted). IsNext k.content x d) (sym is) (record {
          right = subst (λ (c : RepoState). IsRight c e) there (right (sound_now kept stands k steady) (accepted_now e d made));
          made = made.made ∙ ap (λ (c : RepoState). changed c e) (steady.agrees.content running ∙ there);
        })

    -- what it has led to, if it was no commit
    pub settled_by : (q : Point) (e asked : Accepted) (d : RepoState) (refusal : Option Refusal) (r : Result (Unit {0}) ChangeFault)
        → IsMade (kept k.archive).content e d → asked ≡ e → (IsAccepted (content_of (now_of n k)) e → refusal ≡ None)
        → SettlesTo asked (now_of n k) r q → ReplacesAt shared_rules refusal e (now_of n k) r q
    settled_by q e asked d refusal r made is accepts s =
        settled_all (now_of n k) q refusal e r here (accepts (accepted_now e d made))
        (subst (λ (x : Accepted). SettlesTo x (now_of n k) r q) is s)

-- the youngest revision behind a commit is the one that it has made
pub number_is : (c : RepoState) (ask : CommitAsk) (t : TxnState) (at d : RepoState) → c ≡ at → d ≡ committed c ask t
    → youngest d ≡ length at.revisions
number_is c ask t at d same made =
    let n : youngest (committed c ask t) ≡ length c.revisions = omega (arith, length-append c.revisions (record { tree = next_tree c t; changes = t.changes } ∷ [])) in
    ap youngest made ∙ (n ∙ ap (λ (x : RepoState). length x.revisions) same)

-- ---- the release after a commit

wanted : (ask : CommitAsk) (handed : Handed) (c : RepoState) → ask.keep_locks ≡ false
    → handed.user ≡ ask.author → handed.tokens ≡ ask.tokens → wants_release ask c ≡ releases handed.user handed.tokens c.locks
wanted ask handed c gone user tokens =
    ap (λ (k : Bool). not k && releases ask.author ask.tokens c.locks) gone
    ∙ (ap (λ (u : Option (List ℕ)). releases u ask.tokens c.locks) (sym user)
    ∙ ap (λ (ts : HandedTokens). releases handed.user ts c.locks) (sym tokens))

released_some : (ask : CommitAsk) (handed : Handed) (mid q : Point) (r : Released) → ask.keep_locks ≡ false
    → handed.user ≡ ask.author → handed.tokens ≡ ask.tokens → ReleasesTo handed mid r q → ReleasesAfter shared_rules ask mid r q
released_some ask handed mid q Settled gone user tokens (inl s) =
    inl (wanted ask handed (content_of mid) gone user tokens ∙ s.0, s.1 ∙ (λ i. added mid (Releases (user i) (tokens i))))
released_some ask handed mid q Settled gone user tokens (inr s) = inr (wanted ask handed (content_of mid) gone user tokens ∙ s.0, s.1)
released_some ask handed mid q NoMemory gone user tokens s = (wanted ask handed (content_of mid) gone user tokens ∙ s.0, s.1)
released_some ask handed mid q StoreFailed gone user tokens s = (
  wanted ask handed (content_of mid) gone user tokens ∙ s.0,
  ⊎_elim inl (λ halt. inr (subst (λ (e : Accepted). IsHalt e mid q) (λ i. Releases (user i) (tokens i)) halt)) s.1,
)

-- the release behind a commit
pub released : (ask : CommitAsk) (handed : Option Handed) (mid q : Point) (r : Released) → IsHandedIn ask handed
    → ReleasesHanded handed mid r q → ReleasesAfter shared_rules ask mid r q
released ask None mid q r kept s =
    subst (λ (x : Released). ReleasesAfter shared_rules ask mid x q) (sym s.0) (inr (kept (content_of mid), s.1))
released ask (Some handed) mid q r kept s = released_some ask handed mid q r kept.0 kept.1 kept.2 s
