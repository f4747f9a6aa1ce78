-- Changes that are saved, and then made.
use Rattle.std.proofs.Common.{◌≡◌, ◌⊎◌, inl, inr, ⊎_elim, ℕ, Bool, true, false, not, ◌&&◌, List, Option, Some, None, Result, Ok, Err, refl, sym, ap, ◌∙◌, subst}
use Rattle.std.proofs.lemmas.Bool.{false≢true}
use Rattle.refusals.specs.declared.Refusal.{Refusal}
use Rattle.repo_api.specs.{Accepted.{Accepted, changed, IfRefused, IsOfMemory}, Accepted.Accepted.Releases, Locking.{HandedTokens, releases, without_released}}
use Rattle.repo_api.specs.{States.RepoState, declared.ask.CommitAsk.CommitAsk, declared.fault.ChangeFault.ChangeFault}
use Rattle.repo_api.specs.declared.fault.ChangeFault.TheVariants as change
use Rattle.store_files.specs.declared.fault.StoreFault.{StoreFault}
use Rattle.store_files.specs.declared.fault.StoreFault.TheVariants as store
use Rattle.access.specs.{declared.access.Released.Released, declared.handed.Handed.Handed, Changing.{ChangesAt, ReleasesAfter, wants_release}}
use Rattle.access.specs.{Handed.IsHandedIn, Points.{content_of, HasRisen, Point}, Sole.sole_rules}
use Rattle.access.specs.declared.access.Released.TheVariants as releases_so
use Rattle.stored_repository.specs.Stored.{stored_at, SavesTo, ReleasesBy, ReleasesKept, released_as}

-- a save that failed, as it is told
pub save_failed : (e : Accepted) (content next : RepoState) (was now : Bool) (before after : ℕ)
    (old new : Option Accepted) (fault : StoreFault) (told : ChangeFault) → was ≡ false
    → (now ≡ true → (was ≡ true) ⊎ (fault ≡ store.Device))
    → (fault ≡ store.Device → HasRisen before after)
    → ((fault ≡ store.Device → ⊥) → after ≡ before)
    → (fault ≡ store.Halted → was ≡ true)
    → (fault ≡ store.Device) ⊎ (fault ≡ store.NoMemory) ⊎ (fault ≡ store.Halted)
    → (fault ≡ store.NoMemory → (told ≡ change.NoMemory) × (new ≡ old))
    → ((fault ≡ store.NoMemory → ⊥) → now ≡ true → (told ≡ change.Halted) × (new ≡ Some e))
    → ((fault ≡ store.NoMemory → ⊥) → now ≡ false → (told ≡ change.StoreFailed) × (new ≡ old))
    → SavesTo e (stored_at content was before old) next (Err told) (stored_at content now after new)
save_failed e content next was now before after old new fault told goes_on by_device device steady halted only memory stops fails = elim only [
  | inl by ↦ of_device now refl by
  | inr (inl lacks) ↦ of_memory now refl lacks
  | inr (inr stopped) ↦ absurd (false≢true (sym goes_on ∙ halted stopped))
]
  where
    Goal : ChangeFault → Type 0
    Goal a = SavesTo e (stored_at content was before old) next (Err a) (stored_at content now after new)

    of_device : (b : Bool) → now ≡ b → fault ≡ store.Device → Goal told
    of_device true is by =
        let as_told = stops (λ x. cc) is in
        subst Goal (sym as_told.0) (record { same = record { first = refl; changes = refl; own = refl }; halted = is; pending = as_told.1; risen = device by })
    of_device false is by =
        let as_told = fails (λ x. cc) is in
        subst Goal (sym as_told.0) (record { same = record { first = refl; changes = refl; own = refl }; halted = is ∙ sym goes_on; pending = as_told.1; risen = device by })

    of_memory : (b : Bool) → now ≡ b → fault ≡ store.NoMemory → Goal told
    of_memory true is lacks = ⊎_elim (λ was_so. absurd (false≢true (sym goes_on ∙ was_so))) (λ by. absurd (cc)) (by_device is)
    of_memory false is lacks =
        let same : after ≡ before = steady (λ by. cc) in
        let halts : now ≡ was = is ∙ sym goes_on in
        let as_told = memory lacks in
        subst Goal (sym as_told.0) (λ i. stored_at content (halts i) (same i) (as_told.1 i))

-- a change that the rules refuse, or that lacks memory
pub refused : {T : Type 0} (at : Point) (refusal : Option Refusal) (e : Accepted) (Made : T → Point → Type 0) (fault : ChangeFault) → at.halted ≡ false
    → IfRefused {T = Unit {0}} (Err fault) (λ r. refusal ≡ Some r) → IsOfMemory {T = Unit {0}} (Err fault)
    → ChangesAt refusal e Made at (Err fault) at
refused at refusal e Made (change.Refused r) goes_on why memory = (goes_on, why, refl)
refused at refusal e Made change.StoreFailed goes_on why memory = absurd memory
refused at refusal e Made change.Halted goes_on why memory = absurd memory
refused at refusal e Made change.NoMemory goes_on why memory = refl

-- a change whose save failed
pub not_saved : {T : Type 0} (at : Point) (next : RepoState) (refusal : Option Refusal) (e : Accepted) (Made : T → Point → Type 0) (fault : ChangeFault) (q : Point) → at.halted ≡ false
    → refusal ≡ None → SavesTo e at next (Err fault) q → ChangesAt refusal e Made at (Err fault) q
not_saved at next refusal e Made (change.Refused r) q goes_on accepted saved = absurd saved
not_saved at next refusal e Made change.StoreFailed q goes_on accepted saved = (goes_on, accepted, saved)
not_saved at next refusal e Made change.Halted q goes_on accepted saved = inr (goes_on, accepted, saved)
not_saved at next refusal e Made change.NoMemory q goes_on accepted saved = saved

-- a change that was saved or not
pub settled : (at : Point) (next : RepoState) (refusal : Option Refusal) (e : Accepted) (r : Result (Unit {0}) ChangeFault) (q : Point) → at.halted ≡ false
    → refusal ≡ None → next ≡ changed (content_of at) e → SavesTo e at next r q
    → ChangesAt refusal e (λ _ p. sole_rules.adds at e p) at r q
settled at next refusal e (Ok x) q goes_on accepted is saved =
    (goes_on, accepted, saved ∙ ap (λ (c : RepoState). stored_at c at.halted at.failures at.pending) is)
settled at next refusal e (Err fault) q goes_on accepted is saved =
    not_saved {T = Unit {0}} at next refusal e (λ _ p. sole_rules.adds at e p) fault q goes_on accepted saved

wanted : (ask : CommitAsk) (handed : Handed) (c : RepoState) → ask.keep_locks ≡ false
    → handed.user ≡ ask.author → handed.tokens ≡ ask.tokens
    → wants_release ask c ≡ releases handed.user handed.tokens c.locks
wanted ask handed c gone user tokens =
    ap (λ k. not k && releases ask.author ask.tokens c.locks) gone
    ∙ ap (λ u. releases u ask.tokens c.locks) (sym user)
    ∙ ap (λ ts. releases handed.user ts c.locks) (sym tokens)

pub without : (ask : CommitAsk) (handed : Handed) (c : RepoState)
    → handed.user ≡ ask.author → handed.tokens ≡ ask.tokens
    → without_released c handed.user handed.tokens ≡ without_released c ask.author ask.tokens
without ask handed c user tokens =
    ap (λ u. without_released c u handed.tokens) user ∙ ap (λ ts. without_released c ask.author ts) tokens

-- the release behind a commit
pub released : (ask : CommitAsk) (handed : Option Handed) (at : Point) (r : Released) (q : Point) → IsHandedIn ask handed
    → ReleasesKept handed at r q → ReleasesAfter sole_rules ask at r q
released ask None at releases_so.Settled q kept r = inr (kept (content_of at), r.1)
released ask None at releases_so.NoMemory q kept r = let e : releases_so.NoMemory ≡ releases_so.Settled = r.0 in absurd (cc)
released ask None at releases_so.StoreFailed q kept r = let e : releases_so.StoreFailed ≡ releases_so.Settled = r.0 in absurd (cc)
released ask (Some handed) at releases_so.Settled q kept (inl made) =
    inl (
      wanted ask handed (content_of at) kept.0 kept.1 kept.2 ∙ made.0,
      made.1 ∙ ap (λ (c : RepoState). stored_at c at.halted at.failures at.pending) (without ask handed (content_of at) kept.1 kept.2),
    )
released ask (Some handed) at releases_so.Settled q kept (inr none) = inr (wanted ask handed (content_of at) kept.0 kept.1 kept.2 ∙ none.0, none.1)
released ask (Some handed) at releases_so.NoMemory q kept lacks = (wanted ask handed (content_of at) kept.0 kept.1 kept.2 ∙ lacks.0, lacks.1)
released ask (Some handed) at releases_so.StoreFailed q kept failed = (
  wanted ask handed (content_of at) kept.0 kept.1 kept.2 ∙ failed.0,
  ⊎_elim inl (λ halt. inr (record {
    same = halt.same;
    halted = halt.halted;
    pending = halt.pending ∙ ap (λ (e : Accepted). Some e) (λ i. Releases (kept.1 i) (kept.2 i));
    risen = halt.risen;
  })) failed.1,
)

-- a release that was saved or not
pub release_saved : (user : Option (List ℕ)) (tokens : HandedTokens) (at : Point) (next : RepoState) (r : Result (Unit {0}) ChangeFault) (q : Point)
    → releases user tokens (content_of at).locks ≡ true → next ≡ without_released (content_of at) user tokens
    → SavesTo (Releases user tokens) at next r q → ReleasesBy user tokens at (released_as r) q
release_saved user tokens at next (Ok x) q wants is saved =
    inl (wants, saved ∙ ap (λ (c : RepoState). stored_at c at.halted at.failures at.pending) is)
release_saved user tokens at next (Err (change.Refused r)) q wants is saved = absurd saved
release_saved user tokens at next (Err change.StoreFailed) q wants is saved = (wants, inl saved)
release_saved user tokens at next (Err change.Halted) q wants is saved = (wants, inr saved)
release_saved user tokens at next (Err change.NoMemory) q wants is saved = (wants, saved)
