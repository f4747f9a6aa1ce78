-- Accepted changes respect locks.
use Rattle.std.proofs.Common.{◌≡◌, ℕ, ◌&&◌, not, List, [], ◌∷◌, ◌++◌, Bool, true, false, Option, Some, None, ap, sym, subst, ◌∙◌}
use Rattle.std.specs.{Prelude.{IsTrue, if◌then◌else◌}, FinMap.{get, empty, get-empty}, List.list_any}
use Rattle.svnpath.specs.Paths.{path_cmp, PathValue}
use Rattle.access.specs.Changing.{wants_release}
use Rattle.repo_api.specs.{Accepted.{Accepted, AreAccepted, changed, changed_all}, Accepted.Accepted.{ChangesProperty, Commits, Locks, Releases, Unlocks}}
use Rattle.repo_api.specs.{Commits.{commit_refusal, committed}, LockRuns.{HaveNewTokens, HaveOwnTokens, IsNewToken, names_lock}}
use Rattle.repo_api.specs.{Locking.{is_handed_in, is_in_the_way}, States.{RepoState, TxnState}, declared.ask.CommitAsk.CommitAsk}
use Rattle.repo_api.specs.declared.lock.Lock.{Lock as LockValue}
use Rattle.wire_replies.specs.declared.reply.Reply.{Reply}
use Rattle.machine.specs.{Hearing.Input, declared.env.Env.Env}
use Rattle.hub.specs.{Done.GoesOnBy, Laws.{AllHoldLocks, IsNewWord, IsTold, MakesNewTokens, RespectLocks, UsesWord}}
use Rattle.hub.specs.{Runs.{ends_of, Event, HubRun, HubStep, with_rest}, Runs.Event.{Connects, Drops, HandsIn, Hears, Leaves}, State.HubState}
use Rattle.hub.specs.{Calls.{CallStep, CallRun}, CallLaws.{CallMakesNewTokens, CallsMakeNewTokens}}
use Rattle.hub.specs.{declared.hub.HubFault.TheVariants.{NoSession, NoMemory, Halted, Full}, declared.calls.Call.Call}
use Rattle.hub.specs.{declared.calls.Call.TheVariants.{Connect, Feed, Disconnect}, declared.calls.Outcome.Outcome}
use Rattle.hub.specs.declared.calls.Outcome.TheVariants.{Connected, Wrote, Dropped, Failed}
use Rattle.hub.proofs.{Acting.{Acts, acts}, Calling.some_words}

-- where there are no locks, no two have one token
pub none_at_first : HaveOwnTokens empty
none_at_first p q k l at = absurd (no_lock k (sym (get-empty path_cmp p) ∙ at))
  where
    IsNone : Option LockValue → Type 0
    IsNone None = Unit {0}
    IsNone (Some k) = ⊥

    no_lock : (k : LockValue) → None ≡ Some k → ⊥
    no_lock k h = subst IsNone h tt

module _ (holds : (c : RepoState) (ask : CommitAsk) (t : TxnState) → commit_refusal c ask t ≡ None → (p : PathValue) (l : LockValue) → get c.locks p ≡ Some l
    → is_in_the_way t.changes p ≡ true → (ask.author ≡ Some l.owner) × IsTrue (is_handed_in ask.tokens l.token))
    (stays : (c : RepoState) (changes : List Accepted) (p : PathValue) → list_any (λ e. names_lock e p) changes ≡ false → get (changed_all c changes).locks p ≡ get c.locks p)
    (apart : (c : RepoState) (changes : List Accepted) → HaveOwnTokens c.locks → HaveNewTokens c changes → HaveOwnTokens (changed_all c changes).locks) where
  all_held : (c : RepoState) (es : List Accepted) → AreAccepted c es → AllHoldLocks c es
  all_held c [] are = tt
  all_held c (Commits ask t ∷ es) (accepted, are) = (holds c ask t accepted, all_held (changed c (Commits ask t)) es are)
  all_held c (Locks ask ∷ es) (accepted, are) = (tt, all_held (changed c (Locks ask)) es are)
  all_held c (Unlocks ask ∷ es) (accepted, are) = (tt, all_held (changed c (Unlocks ask)) es are)
  all_held c (Releases user tokens ∷ es) (accepted, are) = (tt, all_held (changed c (Releases user tokens)) es are)
  all_held c (ChangesProperty ask ∷ es) (accepted, are) = (tt, all_held (changed c (ChangesProperty ask)) es are)

  respects : (c : RepoState) (es : List Accepted) → AreAccepted c es → RespectLocks c es (changed_all c es)
  respects c es are = record { held = all_held c es are; unnamed = stays c es; distinct = apart c es }

  pub respected : (old : RepoState) (es : List Accepted) (new : RepoState) → GoesOnBy old es new → RespectLocks old es new
  respected old es new on = subst (λ (x : RepoState). RespectLocks old es x) (sym on.is) (respects old es on.accepted)

  -- ---- tokens

  release_new : (c : RepoState) (ask : CommitAsk) (b : Bool) → HaveNewTokens c (if b then Releases ask.author ask.tokens ∷ [] else [])
  release_new c ask true = tt
  release_new c ask false = tt

  -- a lock that is made has the token of the word that is used up
  tokens_new : (c : RepoState) (failed : Bool) (es : List Accepted) (told : List Reply) (env after : Env) → IsTold c failed es told → UsesWord env es after → IsNewWord c.locks env after → HaveNewTokens c es
  tokens_new c failed [] told env after is words fresh = tt
  tokens_new c failed (Commits ask t ∷ es) told env after (wanted, behind, ends) words fresh =
      let now = committed c ask t in
      subst (λ (xs : List Accepted). HaveNewTokens now xs) (sym behind) (release_new now ask (wants_release ask now && not failed))
  tokens_new c failed (Locks ask ∷ es) told env after (none, ends) (token, used) fresh =
      (subst (λ (x : List ℕ). IsNewToken c.locks x) (sym token) (fresh used), subst (λ (xs : List Accepted). HaveNewTokens (changed c (Locks ask)) xs) (sym none) tt)
  tokens_new c failed (Unlocks ask ∷ es) told env after (none, ends) words fresh = subst (λ (xs : List Accepted). HaveNewTokens (changed c (Unlocks ask)) xs) (sym none) tt
  tokens_new c failed (Releases user tokens ∷ es) told env after bad words fresh = absurd bad
  tokens_new c failed (ChangesProperty ask ∷ es) told env after (none, ends) words fresh =
      subst (λ (xs : List Accepted). HaveNewTokens (changed c (ChangesProperty ask)) xs) (sym none) tt

  same_apart : (old new : HubState) → new.content ≡ old.content → HaveOwnTokens old.content.locks → HaveOwnTokens new.content.locks
  same_apart old new same own = subst (λ (x : RepoState). HaveOwnTokens x.locks) (sym same) own

  acts_apart : (old new : HubState) (env after : Env) (n : ℕ) (input : Input) (told : List Reply) → Acts old env (Hears n input) told new after
      → HaveOwnTokens old.content.locks → IsNewWord old.content.locks env after → HaveOwnTokens new.content.locks
  acts_apart old new env after n input told a own fresh =
      (respected old.content a.changes new.content a.on).distinct own (tokens_new old.content a.failed a.changes told env after a.tells a.words fresh)

  leaving_apart : (old new : HubState) (env after : Env) (n : ℕ) (input : Input) (told : List Reply) → Acts old env (Leaves n input) told new after
      → HaveOwnTokens old.content.locks → HaveOwnTokens new.content.locks
  leaving_apart old new env after n input told a own =
      let alone = a.tells.1.2 in
      (respected old.content a.changes new.content a.on).distinct own (subst (λ (es : List Accepted). HaveNewTokens old.content es) (sym alone) tt)

  event_apart : (old new : HubState) (env after : Env) (e : Event) (told : List Reply) → HubStep old env e told new after
      → HaveOwnTokens old.content.locks → IsNewWord old.content.locks env after → HaveOwnTokens new.content.locks
  event_apart old new env after (Connects n) told h own fresh = same_apart old new (ap (λ (x : HubState). x.content) h.3) own
  event_apart old new env after (HandsIn words) told h own fresh = same_apart old new (ap (λ (x : HubState). x.content) h.1) own
  event_apart old new env after (Hears n input) told h own fresh = acts_apart old new env after n input told (acts old new env after (Hears n input) told h) own fresh
  event_apart old new env after (Leaves n input) told h own fresh = leaving_apart old new env after n input told (acts old new env after (Leaves n input) told h) own
  event_apart old new env after (Drops n) told h own fresh = same_apart old new (ap (λ (x : HubState). x.content) h.2) own

  pub run_apart : (old new : HubState) (env after : Env) (events : List Event) (told : List Reply) (run : HubRun old env events told new after)
      → HaveOwnTokens old.content.locks → MakesNewTokens old env events told new after run → HaveOwnTokens new.content.locks
  run_apart old new env after [] told run own fresh = subst (λ (x : HubState). HaveOwnTokens x.content.locks) (sym run.1) own
  run_apart old new env after (e ∷ es) told (first, mid, between, more, step, run, is_told) own fresh =
      run_apart mid new between after es more run (event_apart old mid env between e first step own fresh.0) fresh.1

  at_same : (old new : HubState) → new ≡ old → HaveOwnTokens old.content.locks → HaveOwnTokens new.content.locks
  at_same old new same own = same_apart old new (ap (λ (x : HubState). x.content) same) own

  call_apart : (old : HubState) (call : Call) (outcome : Outcome) (new : HubState) (step : CallStep old call outcome new)
      → HaveOwnTokens old.content.locks → CallMakesNewTokens old call outcome new step → HaveOwnTokens new.content.locks
  call_apart old Connect (Connected n out) new step own fresh = same_apart old new (ap (λ (x : HubState). x.content) (step.step some_words).3) own
  call_apart old Connect (Failed NoSession) new step own fresh = absurd step
  call_apart old Connect (Failed NoMemory) new step own fresh = at_same old new step.1 own
  call_apart old Connect (Failed Halted) new step own fresh = at_same old new step.1 own
  call_apart old Connect (Failed Full) new step own fresh = at_same old new step.2 own
  call_apart old Connect (Wrote out) new step own fresh = absurd step
  call_apart old Connect Dropped new step own fresh = absurd step
  call_apart old (Feed n piece env) (Wrote out) new step own fresh =
      let f = step.feeds in
      run_apart (with_rest old n f.session f.rest) new env f.env_after f.events f.told f.run own fresh
  call_apart old (Feed n piece env) (Failed NoMemory) new step own fresh =
      let b = step.1 in
      run_apart (with_rest old n b.session b.rest) new env b.env_after (b.events ++ ends_of n b.left) b.told b.run own fresh
  call_apart old (Feed n piece env) (Failed NoSession) new step own fresh = at_same old new step.2 own
  call_apart old (Feed n piece env) (Failed Halted) new step own fresh = at_same old new step.1 own
  call_apart old (Feed n piece env) (Failed Full) new step own fresh = absurd step
  call_apart old (Feed n piece env) (Connected m out) new step own fresh = absurd step
  call_apart old (Feed n piece env) Dropped new step own fresh = absurd step
  call_apart old (Disconnect n) Dropped new step own fresh = same_apart old new (ap (λ (x : HubState). x.content) (step some_words).2) own
  call_apart old (Disconnect n) (Failed e) new step own fresh = absurd step
  call_apart old (Disconnect n) (Connected m out) new step own fresh = absurd step
  call_apart old (Disconnect n) (Wrote out) new step own fresh = absurd step

  pub calls_apart : (old new : HubState) (calls : List Call) (outcomes : List Outcome) (run : CallRun old calls outcomes new)
      → HaveOwnTokens old.content.locks → CallsMakeNewTokens old calls outcomes new run → HaveOwnTokens new.content.locks
  calls_apart old new [] [] run own fresh = at_same old new run own
  calls_apart old new (call ∷ calls) (outcome ∷ outcomes) (mid, step, run) own fresh =
      calls_apart mid new calls outcomes run (call_apart old call outcome mid step own fresh.0) fresh.1
  calls_apart old new [] (outcome ∷ outcomes) run own fresh = absurd run
  calls_apart old new (call ∷ calls) [] run own fresh = absurd run
