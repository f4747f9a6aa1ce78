-- What events do is what their sessions have asked for.
use Rattle.std.proofs.{Common.{◌≡◌, ℕ, List, [], ◌∷◌, ◌++◌, true, false, Some, refl, sym, ap, subst, ◌∙◌}, lemmas.Bool.true≢false}
use Rattle.std.specs.FinMap.{get}
use Rattle.svnpath.specs.Paths.{PathValue}
use Rattle.repo_api.specs.{Accepted.{Accepted, changed, changed_all}, Accepted.Accepted.{ChangesProperty, Commits, Locks, Releases, Unlocks}, Commits.next_tree}
use Rattle.repo_api.specs.{Marks.{MeetWell, own_of, shown}, Merge.is_changed, States.{RepoState, tree_at, tree_of, trees_in, TxnState, youngest}}
use Rattle.wire_replies.specs.declared.reply.Reply.{Reply}
use Rattle.machine.specs.{Soundness.MeetBy, Stages.SessionState, declared.env.Env.Env}
use Rattle.hub.specs.{Done.{GoesOnBy, HasDone, HaveDone}, Laws.AllKeepSides, Runs.{ends_of, Event, HubRun, HubStep, with_rest}, Runs.Event.{Connects, Drops}}
use Rattle.hub.specs.{State.{HasTrees, HubState, session_of, updated}, Calls.{CallStep, CallRun}, CallLaws.{CallHasDone, CallsHaveDone}}
use Rattle.hub.specs.{declared.hub.HubFault.TheVariants.{NoSession, NoMemory, Halted, Full}, declared.calls.Call.Call}
use Rattle.hub.specs.{declared.calls.Call.TheVariants.{Connect, Feed, Disconnect}, declared.calls.Outcome.Outcome}
use Rattle.hub.specs.declared.calls.Outcome.TheVariants.{Connected, Wrote, Dropped, Failed}
use Rattle.hub.proofs.{Acting.{KeepTrees, acts}, Everywhere.HasTrees-with_rest, Staying.{goes_nowhere, goes_on}, Trees.event_keeps}
use Rattle.hub.proofs.Calling.{with_sessions, some_words}

module _ (keeps : KeepTrees)
    (theirs : (c : RepoState) (t : TxnState) → MeetWell (trees_in c.revisions) t.base (tree_of t.tree) (youngest c) → (p : PathValue) → is_changed (get (tree_at c t.base) p) (get (tree_at c (youngest c)) p) ≡ true → (shown (get (next_tree c t) p) ≡ shown (get (tree_at c (youngest c)) p)) × (own_of (get (next_tree c t) p) ≡ own_of (get (tree_at c (youngest c)) p)))
    (ours : (c : RepoState) (t : TxnState) → MeetWell (trees_in c.revisions) t.base (tree_of t.tree) (youngest c) → (p : PathValue) → is_changed (get (tree_at c t.base) p) (get t.tree p) ≡ true → shown (get (next_tree c t) p) ≡ shown (get t.tree p)) where
  all_keep : (c : RepoState) (es : List Accepted) → MeetBy c es → AllKeepSides c es
  all_keep c [] meet = tt
  all_keep c (Commits ask t ∷ es) (meets, meet) = (record { theirs = theirs c t meets; ours = ours c t meets }, all_keep (changed c (Commits ask t)) es meet)
  all_keep c (Locks ask ∷ es) (meets, meet) = (tt, all_keep (changed c (Locks ask)) es meet)
  all_keep c (Unlocks ask ∷ es) (meets, meet) = (tt, all_keep (changed c (Unlocks ask)) es meet)
  all_keep c (Releases user tokens ∷ es) (meets, meet) = (tt, all_keep (changed c (Releases user tokens)) es meet)
  all_keep c (ChangesProperty ask ∷ es) (meets, meet) = (tt, all_keep (changed c (ChangesProperty ask)) es meet)

  pub event_does : (old new : HubState) (env after : Env) (e : Event) (told : List Reply) → HubStep old env e told new after
      → (changes : List Accepted) × HasDone old env e changes told new after
  event_does old new env after e told h =
      let a = acts old new env after e told h in (
        a.changes,
        record { own = a.own; on = a.on; failed = a.failed; counted = a.counted; tells = a.tells; words = a.words; sides = λ trees. all_keep old.content a.changes (a.meet keeps trees); halt = a.halt },
      )

  pub run_does : (old new : HubState) (env after : Env) (events : List Event) (told : List Reply) (run : HubRun old env events told new after)
      → (changes : List Accepted) × HaveDone old env events told new after run changes
  run_does old new env after [] told run = ([], refl)
  run_does old new env after (e ∷ es) told (first, mid, between, more, step, run, is_told) =
      let one = event_does old mid env between e first step in
      let rest = run_does mid new between after es more run in
      (one.0 ++ rest.0, (one.0, one.1, rest.0, rest.1, refl))

  call_does : (old : HubState) (call : Call) (outcome : Outcome) (new : HubState) (step : CallStep old call outcome new)
      → (changes : List Accepted) × CallHasDone old call outcome new step changes
  call_does old Connect outcome new step = ([], refl)
  call_does old (Feed n piece env) (Wrote out) new step =
      let f = step.feeds in run_does (with_rest old n f.session f.rest) new env f.env_after f.events f.told f.run
  call_does old (Feed n piece env) (Failed NoMemory) new step =
      let b = step.1 in run_does (with_rest old n b.session b.rest) new env b.env_after (b.events ++ ends_of n b.left) b.told b.run
  call_does old (Feed n piece env) (Failed NoSession) new step = ([], refl)
  call_does old (Feed n piece env) (Failed Halted) new step = ([], refl)
  call_does old (Feed n piece env) (Failed Full) new step = ([], refl)
  call_does old (Feed n piece env) (Connected m out) new step = ([], refl)
  call_does old (Feed n piece env) Dropped new step = ([], refl)
  call_does old (Disconnect n) outcome new step = ([], refl)

  pub calls_do : (old new : HubState) (calls : List Call) (outcomes : List Outcome) (run : CallRun old calls outcomes new)
      → (changes : List Accepted) × CallsHaveDone old calls outcomes new run changes
  calls_do old new [] outcomes run = ([], refl)
  calls_do old new (call ∷ calls) (outcome ∷ outcomes) (mid, step, run) =
      let one = call_does old call outcome mid step in
      let rest = calls_do mid new calls outcomes run in
      (one.0 ++ rest.0, (one.0, one.1, rest.0, rest.1, refl))
  calls_do old new (call ∷ calls) [] run = ([], refl)

-- ---- what is known of such changes

-- a relation that holds of each event and its changes holds of a run and of calls
module _ (K : HubState → List Accepted → HubState → Type 0) (none : (h : HubState) → K h [] h)
    (both : (a b c : HubState) (xs ys : List Accepted) → K a xs b → K b ys c → K a (xs ++ ys) c)
    (apart : (old new : HubState) (sessions : List (ℕ × SessionState)) (es : List Accepted) → (HasTrees old → HasTrees (with_sessions old sessions)) → K (with_sessions old sessions) es new → K old es new)
    (event : (old new : HubState) (env after : Env) (e : Event) (es : List Accepted) (told : List Reply) → HubStep old env e told new after → HasDone old env e es told new after → K old es new) where
  none_at : (old new : HubState) (es : List Accepted) → new ≡ old → es ≡ [] → K old es new
  none_at old new es same is = subst (λ (xs : List Accepted). K old xs new) (sym is) (subst (λ (x : HubState). K old [] x) (sym same) (none old))

  pub through_events : (old new : HubState) (env after : Env) (events : List Event) (told : List Reply) (run : HubRun old env events told new after) (es : List Accepted)
      → HaveDone old env events told new after run es → K old es new
  through_events old new env after [] told run es done = none_at old new es run.1 done
  through_events old new env after (e ∷ events) told (first, mid, between, more, step, run, is_told) es (front, one, back, rest, is) =
      subst (λ (xs : List Accepted). K old xs new) (sym is) (both old mid new front back (event old mid env between e front first step one) (through_events mid new between after events more run back rest))

  heard_so : (old : HubState) (n : ℕ) (s : SessionState) (rest : List ℕ) (new : HubState) (env after : Env) (events : List Event) (told : List Reply) (run : HubRun (with_rest old n s rest) env events told new after) (es : List Accepted)
      → session_of old.sessions n ≡ Some s → HaveDone (with_rest old n s rest) env events told new after run es → K old es new
  heard_so old n s rest new env after events told run es found done =
      apart old new (updated old.sessions n (record { rest = rest; phase = s.phase })) es (HasTrees-with_rest old n s rest found)
      (through_events (with_rest old n s rest) new env after events told run es done)

  one_so : (old new : HubState) (es : List Accepted) (e : Event) (told : List Reply) → HubStep old some_words e told new some_words → HasDone old some_words e [] told new some_words → es ≡ [] → K old es new
  one_so old new es e told step done is = subst (λ (xs : List Accepted). K old xs new) (sym is) (event old new some_words some_words e [] told step done)

  call_so : (old : HubState) (call : Call) (outcome : Outcome) (new : HubState) (step : CallStep old call outcome new) (es : List Accepted)
      → CallHasDone old call outcome new step es → K old es new
  call_so old Connect (Connected n out) new step es done =
      let h = step.step some_words in
      one_so old new es (Connects n) step.told h (record { own = tt; on = record { accepted = tt; is = ap (λ (x : HubState). x.content) h.3 }; failed = false; counted = (ap (λ (x : HubState). x.failures) h.3, ap (λ (x : HubState). x.halted) h.3); tells = tt; words = refl; sides = λ trees. tt; halt = λ ran halts. absurd (true≢false (sym halts ∙ ap (λ (x : HubState). x.halted) h.3 ∙ ran)) }) done
  call_so old Connect (Failed NoSession) new step es done = absurd step
  call_so old Connect (Failed NoMemory) new step es done = none_at old new es step.1 done
  call_so old Connect (Failed Halted) new step es done = none_at old new es step.1 done
  call_so old Connect (Failed Full) new step es done = none_at old new es step.2 done
  call_so old Connect (Wrote out) new step es done = absurd step
  call_so old Connect Dropped new step es done = absurd step
  call_so old (Feed n piece env) (Wrote out) new step es done =
      let f = step.feeds in heard_so old n f.session f.rest new env f.env_after f.events f.told f.run es f.is_session done
  call_so old (Feed n piece env) (Failed NoMemory) new step es done =
      let b = step.1 in heard_so old n b.session b.rest new env b.env_after (b.events ++ ends_of n b.left) b.told b.run es b.is_session done
  call_so old (Feed n piece env) (Failed NoSession) new step es done = none_at old new es step.2 done
  call_so old (Feed n piece env) (Failed Halted) new step es done = none_at old new es step.1 done
  call_so old (Feed n piece env) (Failed Full) new step es done = absurd step
  call_so old (Feed n piece env) (Connected m out) new step es done = absurd step
  call_so old (Feed n piece env) Dropped new step es done = absurd step
  call_so old (Disconnect n) Dropped new step es done =
      let h = step some_words in
      one_so old new es (Drops n) [] h (record { own = tt; on = record { accepted = tt; is = ap (λ (x : HubState). x.content) h.2 }; failed = false; counted = (ap (λ (x : HubState). x.failures) h.2, ap (λ (x : HubState). x.halted) h.2); tells = tt; words = refl; sides = λ trees. tt; halt = λ ran halts. absurd (true≢false (sym halts ∙ ap (λ (x : HubState). x.halted) h.2 ∙ ran)) }) done
  call_so old (Disconnect n) (Failed e) new step es done = absurd step
  call_so old (Disconnect n) (Connected m out) new step es done = absurd step
  call_so old (Disconnect n) (Wrote out) new step es done = absurd step

  pub through_calls : (old new : HubState) (calls : List Call) (outcomes : List Outcome) (run : CallRun old calls outcomes new) (es : List Accepted)
      → CallsHaveDone old calls outcomes new run es → K old es new
  through_calls old new [] [] run es done = none_at old new es run done
  through_calls old new (call ∷ calls) (outcome ∷ outcomes) (mid, step, run) es (front, one, back, rest, is) =
      subst (λ (xs : List Accepted). K old xs new) (sym is) (both old mid new front back (call_so old call outcome mid step front one) (through_calls mid new calls outcomes run back rest))
  through_calls old new [] (outcome ∷ outcomes) run es done = absurd run
  through_calls old new (call ∷ calls) [] run es done = absurd run

-- the repository has gone on by them
abbrev GoesOn : HubState → List Accepted → HubState → Type 0
GoesOn old es new = GoesOnBy old.content es new.content

pub run_goes_on : (old new : HubState) (env after : Env) (events : List Event) (told : List Reply) (run : HubRun old env events told new after) (es : List Accepted)
    → HaveDone old env events told new after run es → GoesOnBy old.content es new.content
run_goes_on =
    through_events GoesOn (λ h. goes_nowhere h.content) (λ a b c xs ys x y. goes_on a.content b.content c.content xs ys x y) (λ old new sessions es trees on. on)
    (λ old new env after e es told step done. done.on)

pub calls_go_on : (old new : HubState) (calls : List Call) (outcomes : List Outcome) (run : CallRun old calls outcomes new) (es : List Accepted)
    → CallsHaveDone old calls outcomes new run es → GoesOnBy old.content es new.content
calls_go_on =
    through_calls GoesOn (λ h. goes_nowhere h.content) (λ a b c xs ys x y. goes_on a.content b.content c.content xs ys x y) (λ old new sessions es trees on. on)
    (λ old new env after e es told step done. done.on)

-- ---- nothing is overwritten

sides_on : (c d : RepoState) (xs ys : List Accepted) → d ≡ changed_all c xs → AllKeepSides c xs → AllKeepSides d ys → AllKeepSides c (xs ++ ys)
sides_on c d [] ys is first more = subst (λ (x : RepoState). AllKeepSides x ys) is more
sides_on c d (x ∷ xs) ys is (one, first) more = (one, sides_on (changed c x) d xs ys is first more)

-- where every tree is a tree, so it stays
record KeepAll (old : HubState) (es : List Accepted) (new : HubState) : Type 0 where
  stay : HasTrees new
  on : GoesOnBy old.content es new.content
  sides : AllKeepSides old.content es

abbrev FromTrees : HubState → List Accepted → HubState → Type 0
FromTrees old es new = HasTrees old → KeepAll old es new

keep_both : (a b c : HubState) (xs ys : List Accepted) → FromTrees a xs b → FromTrees b ys c → FromTrees a (xs ++ ys) c
keep_both a b c xs ys x y trees =
    let first = x trees in
    let more = y first.stay in
    record { stay = more.stay; on = goes_on a.content b.content c.content xs ys first.on more.on; sides = sides_on a.content b.content xs ys first.on.is first.sides more.sides }

module _ (keeps : KeepTrees) where
  event_from : (old new : HubState) (env after : Env) (e : Event) (es : List Accepted) (told : List Reply) → HubStep old env e told new after → HasDone old env e es told new after → FromTrees old es new
  event_from old new env after e es told step done trees =
      record { stay = event_keeps keeps old new env after e told trees step; on = done.on; sides = done.sides trees }

  apart_from : (old new : HubState) (sessions : List (ℕ × SessionState)) (es : List Accepted) → (HasTrees old → HasTrees (with_sessions old sessions)) → FromTrees (with_sessions old sessions) es new → FromTrees old es new
  apart_from old new sessions es still from trees =
      let k = from (still trees) in
      record { stay = k.stay; on = k.on; sides = k.sides }

  pub run_overwrites_nothing : (old new : HubState) (env after : Env) (events : List Event) (told : List Reply) (run : HubRun old env events told new after) (es : List Accepted)
      → HaveDone old env events told new after run es → HasTrees old → AllKeepSides old.content es
  run_overwrites_nothing old new env after events told run es done trees =
      (through_events FromTrees (λ h trees. record { stay = trees; on = goes_nowhere h.content; sides = tt }) keep_both apart_from event_from old new env after events told run es done trees).sides

  pub calls_overwrite_nothing : (old new : HubState) (calls : List Call) (outcomes : List Outcome) (run : CallRun old calls outcomes new) (es : List Accepted)
      → CallsHaveDone old calls outcomes new run es → HasTrees old → AllKeepSides old.content es
  calls_overwrite_nothing old new calls outcomes run es done trees =
      (through_calls FromTrees (λ h trees. record { stay = trees; on = goes_nowhere h.content; sides = tt }) keep_both apart_from event_from old new calls outcomes run es done trees).sides
