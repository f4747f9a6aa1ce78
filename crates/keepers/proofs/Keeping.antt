-- What a save leaves.
use Rattle.std.proofs.Common.{lit<, ◌≡◌, ◌<◌, ℕ, Bool, true, false, true≢false, List, [], ◌∷◌, ◌++◌, length, None, ◌∙◌, refl, sym, ap, subst}
use Rattle.repo_api.specs.{Accepted.{Accepted, changed, IsAccepted}, Soundness.AreSound, States.RepoState}
use Rattle.access.specs.{Changing.{IsFailure, IsHalt}, Points.HasRisen, Beginnings.through}
use Rattle.published.specs.Edition.{Edition, edition_after}
use Rattle.published.specs.Events.{Event, IsHistory, Told, knowing, moment_of, own_in, point_of, state_of, told, told_by, told_in}
use Rattle.published.specs.{Events.Event.{Fails, Makes, Opened}, Files.{Agrees, Kept, MayOpen}, Moments.added}
use Rattle.published.proofs.Histories.{failures_by, halted_by, history_sound, longer_yet, moment_fails, moment_more, pending_halted, pending_still, state_more}
use Rattle.published.proofs.Histories.{state_still, told_fails, told_makes}
use Rattle.archives.specs.Archives.{FilesFor, FilesStand}
use Rattle.keepers.specs.Standing.{Standing, standing, IsSteady}

-- while changes are saved, the files stand for the repository, which is sound
module _ {S : Type 0} (kept : S → Kept) (stands : S → List RepoState → Type 0) (k : Standing S) (steady : IsSteady kept stands k) where
  pub running_now : (kept k.archive).halted ≡ false → (told_in k.list).halted ≡ false
  running_now running = sym steady.agrees.halted ∙ running

  pub stands_now : (kept k.archive).halted ≡ false → stands k.archive (state_of k.list ∷ [])
  stands_now running = subst (λ (b : Bool). FilesFor stands k.archive b (told_in k.list).pending k.list) (running_now running) steady.files

  pub sound_now : AreSound (state_of k.list).revisions
  sound_now = history_sound k.list steady.begun steady.history

-- ---- what keeps the files is as the events say

pub agrees_made : (old new : Kept) (list : List Event) (by : ℕ) (e : Accepted) → 0 < length list → Agrees old list → old.halted ≡ false
    → new.content ≡ changed old.content e → new.halted ≡ old.halted → new.failures ≡ old.failures → Agrees new (list ++ Makes by e ∷ [])
agrees_made old new list by e begun agrees running content halted failures = record {
  content = λ h. content ∙ (ap (λ (c : RepoState). changed c e) (agrees.content running) ∙ sym (state_more list by e begun));
  halted = halted ∙ (agrees.halted ∙ sym (ap (λ (t : Told). t.halted) (told_makes list by e)));
  failures = failures ∙ (agrees.failures ∙ sym (ap (λ (t : Told). t.failures) (told_makes list by e)));
}

pub agrees_failed : (old new : Kept) (list : List Event) (by : ℕ) (e : Accepted) → 0 < length list → Agrees old list → old.halted ≡ false
    → (new.halted ≡ false → new.content ≡ old.content) → Agrees new (list ++ Fails by e new.halted new.failures ∷ [])
agrees_failed old new list by e begun agrees running content =
    let told = told_fails list by e new.halted new.failures in
    record {
      content = λ h. content h ∙ (agrees.content running ∙ sym (state_still list by e new.halted new.failures begun));
      halted = sym (ap (λ (t : Told). t.halted) told ∙ halted_by (told_in list) by e new.halted new.failures (sym agrees.halted ∙ running));
      failures = sym (ap (λ (t : Told). t.failures) told ∙ failures_by (told_in list) by e new.halted new.failures);
    }

-- ---- its files

module _ {S : Type 0} (stands : S → List RepoState → Type 0) (b : S) where
  pub files_made : (list : List Event) (by : ℕ) (e : Accepted) → (told_in list).halted ≡ false → stands b (state_of (list ++ Makes by e ∷ []) ∷ [])
      → FilesStand stands b (list ++ Makes by e ∷ [])
  files_made list by e running now =
      subst (λ (t : Told). FilesFor stands b t.halted t.pending (list ++ Makes by e ∷ [])) (sym (told_makes list by e))
      (subst (λ (x : Bool). FilesFor stands b x (told_in list).pending (list ++ Makes by e ∷ [])) (sym running) now)

  files_told : (list : List Event) (by : ℕ) (e : Accepted) (halts : Bool) (n : ℕ) → 0 < length list → (told_in list).halted ≡ false → IsAccepted (state_of list) e
      → (halts ≡ false → stands b (state_of list ∷ [])) → (halts ≡ true → stands b (through (state_of list) (e ∷ [])))
      → FilesFor stands b (told_by (told_in list) (Fails by e halts n)).halted (told_by (told_in list) (Fails by e halts n)).pending (list ++ Fails by e halts n ∷ [])
  files_told list by e true n begun running accepted goes halts =
      let same : state_of list ≡ state_of (list ++ Fails by e true n ∷ []) = sym (state_still list by e true n begun) in
      (e, refl, subst (λ (c : RepoState). IsAccepted c e) same accepted, subst (λ (c : RepoState). stands b (through c (e ∷ []))) same (halts refl))
  files_told list by e false n begun running accepted goes halts =
      let same : state_of list ≡ state_of (list ++ Fails by e false n ∷ []) = sym (state_still list by e false n begun) in
      subst (λ (x : Bool). FilesFor stands b x (told_in list).pending (list ++ Fails by e false n ∷ [])) (sym running)
      (subst (λ (c : RepoState). stands b (c ∷ [])) same (goes refl))

  pub files_failed : (list : List Event) (by : ℕ) (e : Accepted) (halts : Bool) (n : ℕ) → 0 < length list → (told_in list).halted ≡ false → IsAccepted (state_of list) e
      → (halts ≡ false → stands b (state_of list ∷ [])) → (halts ≡ true → stands b (through (state_of list) (e ∷ [])))
      → FilesStand stands b (list ++ Fails by e halts n ∷ [])
  files_failed list by e halts n begun running accepted goes stops =
      subst (λ (t : Told). FilesFor stands b t.halted t.pending (list ++ Fails by e halts n ∷ [])) (sym (told_fails list by e halts n))
      (files_told list by e halts n begun running accepted goes stops)

-- ---- the moment after a failure

module _ (n : ℕ) (list : List Event) (e : Accepted) (halts : Bool) (count : ℕ) (begun : 0 < length list) (running : (told_in list).halted ≡ false)
    (risen : HasRisen (told_in list).failures count) where
  abbrev longer : List Event
  longer = list ++ Fails n e halts count ∷ []

  rises : HasRisen (told_in list).failures (told_in longer).failures
  rises = subst (λ (m : ℕ). HasRisen (told_in list).failures m)
      (sym (ap (λ (t : Told). t.failures) (told_fails list n e halts count) ∙ failures_by (told_in list) n e halts count)) risen

  pub failure_told : halts ≡ false → IsFailure (moment_of list (own_in n list)) (moment_of longer (own_in n longer))
  failure_told is = record {
    same = moment_fails n list e halts count begun;
    halted = ap (λ (t : Told). t.halted) (told_fails list n e halts count) ∙ (halted_by (told_in list) n e halts count running ∙ (is ∙ sym running));
    pending = ap (λ (t : Told). t.pending) (told_fails list n e halts count) ∙ pending_still (told_in list) n e halts count is;
    risen = rises;
  }

  pub halt_told : halts ≡ true → IsHalt e (moment_of list (own_in n list)) (moment_of longer (own_in n longer))
  halt_told is = record {
    same = moment_fails n list e halts count begun;
    halted = ap (λ (t : Told). t.halted) (told_fails list n e halts count) ∙ (halted_by (told_in list) n e halts count running ∙ is);
    pending = ap (λ (t : Told). t.pending) (told_fails list n e halts count) ∙ pending_halted (told_in list) n e halts count is;
    risen = rises;
  }

-- the moment after a change
pub made_at : (n m : ℕ) (list longer : List Event) (e : Accepted) → m ≡ n → 0 < length list → longer ≡ list ++ Makes m e ∷ []
    → point_of (knowing n longer) ≡ added (point_of (knowing n list)) e
made_at n m list longer e same begun is =
    ap (λ (l : List Event). point_of (knowing n l)) (is ∙ ap (λ (x : ℕ). list ++ Makes x e ∷ []) same) ∙ moment_more n list e begun

-- ---- a keeper after a save

module _ {S : Type 0} (kept : S → Kept) (stands : S → List RepoState → Type 0) (k : Standing S) (steady : IsSteady kept stands k)
    (running : (kept k.archive).halted ≡ false) (n : ℕ) (e : Accepted) (b : S) (saves : (kept b).halted ≡ false → stands b ((kept b).content ∷ [])) where
  -- which succeeded
  pub made_steady : (list : List Event) (content : RepoState) (shown : Edition) → list ≡ k.list ++ Makes n e ∷ [] → IsHistory list
      → content ≡ state_of list → shown ≡ edition_after list → Agrees (kept b) (k.list ++ Makes n e ∷ []) → (kept b).halted ≡ (kept k.archive).halted
      → IsSteady kept stands (standing list content shown b)
  made_steady list content shown is history stood shows agrees halted = record {
    begun = subst (λ (l : List Event). 0 < length l) (sym is) (longer_yet k.list (Makes n e ∷ []) steady.begun);
    history = history;
    content = stood;
    shown = ap (λ (x : Edition). x.list) shows;
    shown_content = ap (λ (x : Edition). x.content) shows ∙ sym stood;
    agrees = subst (λ (l : List Event). Agrees (kept b) l) (sym is) agrees;
    files = subst (λ (l : List Event). FilesStand stands b l) (sym is)
        (files_made stands b k.list n e (running_now kept stands k steady running)
        (subst (λ (c : RepoState). stands b (c ∷ [])) (agrees.content (halted ∙ running)) (saves (halted ∙ running))));
  }

  -- which failed
  pub failed_steady : (list : List Event) (shown : Edition) → list ≡ k.list ++ Fails n e (kept b).halted (kept b).failures ∷ [] → IsHistory list
      → shown ≡ edition_after list → ((kept b).halted ≡ false → (kept b).content ≡ (kept k.archive).content) → IsAccepted (state_of k.list) e
      → stands b (through (kept k.archive).content (e ∷ [])) → IsSteady kept stands (standing list k.content shown b)
  failed_steady list shown is history shows content accepted left =
      let same : state_of list ≡ state_of k.list = ap (λ (l : List Event). state_of l) is ∙ state_still k.list n e (kept b).halted (kept b).failures steady.begun in
      record {
        begun = subst (λ (l : List Event). 0 < length l) (sym is) (longer_yet k.list (Fails n e (kept b).halted (kept b).failures ∷ []) steady.begun);
        history = history;
        content = steady.content ∙ sym same;
        shown = ap (λ (x : Edition). x.list) shows;
        shown_content = ap (λ (x : Edition). x.content) shows ∙ (same ∙ sym steady.content);
        agrees = subst (λ (l : List Event). Agrees (kept b) l) (sym is) (agrees_failed (kept k.archive) (kept b) k.list n e steady.begun steady.agrees running content);
        files = subst (λ (l : List Event). FilesStand stands b l) (sym is)
            (files_failed stands b k.list n e (kept b).halted (kept b).failures steady.begun (running_now kept stands k steady running) accepted
            (λ h. subst (λ (c : RepoState). stands b (c ∷ [])) (content h ∙ steady.agrees.content running) (saves h))
            (λ h. subst (λ (c : RepoState). stands b (through c (e ∷ []))) (steady.agrees.content running) left));
      }

  -- for which memory was refused
  pub still_steady : (shown : Edition) → shown ≡ k.shown → kept b ≡ kept k.archive → IsSteady kept stands (standing k.list k.content shown b)
  still_steady shown shows same =
      let now : (kept b).halted ≡ false = ap (λ (x : Kept). x.halted) same ∙ running in
      let content : (kept b).content ≡ state_of k.list = ap (λ (x : Kept). x.content) same ∙ steady.agrees.content running in
      record {
        begun = steady.begun;
        history = steady.history;
        content = steady.content;
        shown = ap (λ (x : Edition). x.list) shows ∙ steady.shown;
        shown_content = ap (λ (x : Edition). x.content) shows ∙ steady.shown_content;
        agrees = subst (λ (x : Kept). Agrees x k.list) (sym same) steady.agrees;
        files = subst (λ (x : Bool). FilesFor stands b x (told_in k.list).pending k.list) (sym (running_now kept stands k steady running))
            (subst (λ (c : RepoState). stands b (c ∷ [])) content (saves now));
      }

-- one that was just opened
pub opened_steady : {S : Type 0} (kept : S → Kept) (stands : S → List RepoState → Type 0) (c : RepoState) (list : List Event) (archive : S) (shown : Edition)
    → list ≡ Opened c (kept archive).failures ∷ [] → IsHistory list → MayOpen (kept archive) c → shown ≡ edition_after list
    → ((kept archive).halted ≡ false → stands archive ((kept archive).content ∷ []))
    → IsSteady kept stands (standing list c shown archive)
opened_steady kept stands c list archive shown is history may shows saves =
    let told_is : told_in list ≡ told false (kept archive).failures None = ap (λ (l : List Event). told_in l) is in
    let content : state_of list ≡ c = ap (λ (l : List Event). state_of l) is in
    record {
      begun = subst (λ (l : List Event). 0 < length l) (sym is) (lit< tt);
      history = history;
      content = sym content;
      shown = ap (λ (x : Edition). x.list) shows;
      shown_content = ap (λ (x : Edition). x.content) shows ∙ content;
      agrees = record {
        content = λ h. may.0 ∙ sym content;
        halted = may.1 ∙ sym (ap (λ (t : Told). t.halted) told_is);
        failures = sym (ap (λ (t : Told). t.failures) told_is);
      };
      files = subst (λ (t : Told). FilesFor stands archive t.halted t.pending list) (sym told_is)
          (subst (λ (x : RepoState). stands archive (x ∷ [])) (may.0 ∙ sym content) (saves may.1));
    }
