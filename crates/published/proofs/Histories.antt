-- A history goes on.
use Rattle.std.proofs.Common.{◌≡◌, ℕ, ◌+◌, ◌<◌, ◌≤◌, ◌==◌, Bool, true, false, true≢false, List, [], ◌∷◌, ◌++◌, length, Option, Some, None, refl, ap, sym, subst}
use Rattle.std.proofs.{Common.{◌∙◌, arith, inl, inr, append_assoc, append-nil, le_refl, le_trans, length-append}, lemmas.Bool.Decides.nat_tests}
use Rattle.std.specs.Prelude.{if◌then◌else◌}
use mathlib.Core.List.{IsPrefix}
use Rattle.repo_api.specs.{Accepted.{Accepted, changed, changed_all}, Soundness.AreSound, States.RepoState}
use Rattle.access.specs.{Changing.IsUnchanged, Points.{HasRisen, last_count}}
use Rattle.published.specs.{Changes.{IsRight, AreRight}, Events.{Event, first_in, changes_in, own_in, count_in, state_of, moment_of, MayAllFollow, IsHistory}}
use Rattle.published.specs.{Events.{Told, told, told_by, told_from, told_in}, Events.Event.{Opened, Makes, Fails}}
use Rattle.published.specs.Moments.{ListGoesOn, added, changed_more, all_sound}

-- ---- one list of events behind another

pub first_more : (xs ys : List Event) → 0 < length xs → first_in (xs ++ ys) ≡ first_in xs
first_more [] ys lt = absurd (omega (arith, lt))
first_more (Opened c n ∷ xs) ys lt = refl
first_more (Makes by e ∷ xs) ys lt = refl
first_more (Fails by e halts n ∷ xs) ys lt = refl

pub changes_more : (xs ys : List Event) → changes_in (xs ++ ys) ≡ changes_in xs ++ changes_in ys
changes_more [] ys = refl
changes_more (Opened c n ∷ xs) ys = changes_more xs ys
changes_more (Makes by e ∷ xs) ys = ap (λ (es : List Accepted). e ∷ es) (changes_more xs ys)
changes_more (Fails by e halts n ∷ xs) ys = changes_more xs ys

own_one : (b : Bool) (e : Accepted) (xs ys zs : List Accepted) → zs ≡ xs ++ ys
    → (if b then e ∷ zs else zs) ≡ (if b then e ∷ xs else xs) ++ ys
own_one true e xs ys zs is = ap (λ (es : List Accepted). e ∷ es) is
own_one false e xs ys zs is = is

pub own_more : (n : ℕ) (xs ys : List Event) → own_in n (xs ++ ys) ≡ own_in n xs ++ own_in n ys
own_more n [] ys = refl
own_more n (Opened c m ∷ xs) ys = own_more n xs ys
own_more n (Makes by e ∷ xs) ys = own_one (by == n) e (own_in n xs) (own_in n ys) (own_in n (xs ++ ys)) (own_more n xs ys)
own_more n (Fails by e halts m ∷ xs) ys = own_more n xs ys

pub count_more : (n : ℕ) (xs ys : List Event) → count_in n (xs ++ ys) ≡ count_in n xs + count_in n ys
count_more n [] ys = omega arith
count_more n (Opened c m ∷ xs) ys = count_more n xs ys
count_more n (Makes by e ∷ xs) ys = let more = count_more n xs ys in omega (arith, more)
count_more n (Fails by e halts m ∷ xs) ys = let more = count_more n xs ys in omega (arith, more)

pub told_more : (t : Told) (xs ys : List Event) → told_from t (xs ++ ys) ≡ told_from (told_from t xs) ys
told_more t [] ys = refl
told_more t (x ∷ xs) ys = told_more (told_by t x) xs ys

pub longer_yet : {A : Type 0} (xs ys : List A) → 0 < length xs → 0 < length (xs ++ ys)
longer_yet xs ys lt = omega (arith, lt, length-append xs ys)

is_empty : (xs : List Event) → 0 < length xs → xs ≡ [] → ⊥
is_empty [] lt e = omega (arith, lt)
is_empty (x ∷ xs) lt e = cc e

-- ---- one event more

pub state_more : (xs : List Event) (by : ℕ) (e : Accepted) → 0 < length xs → state_of (xs ++ Makes by e ∷ []) ≡ changed (state_of xs) e
state_more xs by e lt =
    (λ i. changed_all (first_more xs (Makes by e ∷ []) lt i) (changes_more xs (Makes by e ∷ []) i))
    ∙ changed_more (first_in xs) (changes_in xs) (e ∷ [])

pub state_still : (xs : List Event) (by : ℕ) (e : Accepted) (halts : Bool) (n : ℕ) → 0 < length xs → state_of (xs ++ Fails by e halts n ∷ []) ≡ state_of xs
state_still xs by e halts n lt =
    λ i. changed_all (first_more xs (Fails by e halts n ∷ []) lt i) ((changes_more xs (Fails by e halts n ∷ []) ∙ append-nil (changes_in xs)) i)

pub same_number : (n : ℕ) → (n == n) ≡ true
same_number n = grind (arith, nat_tests)

-- the moment after a change of one's own
pub moment_more : (n : ℕ) (xs : List Event) (e : Accepted) → 0 < length xs
    → moment_of (xs ++ Makes n e ∷ []) (own_in n (xs ++ Makes n e ∷ [])) ≡ added (moment_of xs (own_in n xs)) e
moment_more n xs e lt =
    let f = first_more xs (Makes n e ∷ []) lt in
    let c = changes_more xs (Makes n e ∷ []) in
    let o : own_in n (xs ++ Makes n e ∷ []) ≡ own_in n xs ++ e ∷ [] =
    own_more n xs (Makes n e ∷ []) ∙ ap (λ (b : Bool). own_in n xs ++ (if b then e ∷ [] else [])) (same_number n) in
    let t = told_more (told false 0 None) xs (Makes n e ∷ []) in
    λ i. record { first = f i; changes = c i; own = o i; halted = (t i).halted; failures = (t i).failures; pending = (t i).pending }

own_still : (n : ℕ) (xs : List Event) (by : ℕ) (e : Accepted) (halts : Bool) (m : ℕ) → own_in n (xs ++ Fails by e halts m ∷ []) ≡ own_in n xs
own_still n xs by e halts m = own_more n xs (Fails by e halts m ∷ []) ∙ append-nil (own_in n xs)

-- the moment after a failure of the store has the same changes
pub moment_fails : (n : ℕ) (xs : List Event) (e : Accepted) (halts : Bool) (m : ℕ) → 0 < length xs
    → IsUnchanged (moment_of xs (own_in n xs)) (moment_of (xs ++ Fails n e halts m ∷ []) (own_in n (xs ++ Fails n e halts m ∷ [])))
moment_fails n xs e halts m lt = record {
  first = first_more xs (Fails n e halts m ∷ []) lt;
  changes = changes_more xs (Fails n e halts m ∷ []) ∙ append-nil (changes_in xs);
  own = own_still n xs n e halts m;
}

pub told_fails : (xs : List Event) (by : ℕ) (e : Accepted) (halts : Bool) (m : ℕ) → told_in (xs ++ Fails by e halts m ∷ []) ≡ told_by (told_in xs) (Fails by e halts m)
told_fails xs by e halts m = told_more (told false 0 None) xs (Fails by e halts m ∷ [])

pub told_makes : (xs : List Event) (by : ℕ) (e : Accepted) → told_in (xs ++ Makes by e ∷ []) ≡ told_in xs
told_makes xs by e = told_more (told false 0 None) xs (Makes by e ∷ [])

-- ---- what a failure tells

-- where changes were saved before
pub halted_by : (t : Told) (by : ℕ) (e : Accepted) (halts : Bool) (n : ℕ) → t.halted ≡ false → (told_by t (Fails by e halts n)).halted ≡ halts
halted_by t by e true n running = refl
halted_by t by e false n running = running

pub failures_by : (t : Told) (by : ℕ) (e : Accepted) (halts : Bool) (n : ℕ) → (told_by t (Fails by e halts n)).failures ≡ n
failures_by t by e true n = refl
failures_by t by e false n = refl

pub pending_halted : (t : Told) (by : ℕ) (e : Accepted) (halts : Bool) (n : ℕ) → halts ≡ true → (told_by t (Fails by e halts n)).pending ≡ Some e
pending_halted t by e true n is = refl
pending_halted t by e false n is = absurd (true≢false (sym is))

pub pending_still : (t : Told) (by : ℕ) (e : Accepted) (halts : Bool) (n : ℕ) → halts ≡ false → (told_by t (Fails by e halts n)).pending ≡ t.pending
pending_still t by e true n is = absurd (true≢false is)
pending_still t by e false n is = refl

-- ---- one list goes on as another

pub follow_split : (done xs rest : List Event) → MayAllFollow done (xs ++ rest) → MayAllFollow (done ++ xs) rest
follow_split done [] rest a = subst (λ (l : List Event). MayAllFollow l rest) (sym (append-nil done)) a
follow_split done (x ∷ xs) rest a = subst (λ (l : List Event). MayAllFollow l rest) (append_assoc done (x ∷ []) xs) (follow_split (done ++ x ∷ []) xs rest a.1)

pub right_after : (done rest : List Event) → 0 < length done → MayAllFollow done rest → AreRight (state_of done) (changes_in rest)
right_after done [] lt a = tt
right_after done (Opened c n ∷ rest) lt a = absurd (is_empty done lt a.0.0)
right_after done (Makes by e ∷ rest) lt a = (
  a.0.2,
  subst (λ (c : RepoState). AreRight c (changes_in rest)) (state_more done by e lt) (right_after (done ++ Makes by e ∷ []) rest (longer_yet done (Makes by e ∷ []) lt) a.1),
)
right_after done (Fails by e halts n ∷ rest) lt a =
    subst (λ (c : RepoState). AreRight c (changes_in rest)) (state_still done by e halts n lt)
    (right_after (done ++ Fails by e halts n ∷ []) rest (longer_yet done (Fails by e halts n ∷ []) lt) a.1)

-- the change that was being saved at a halt is right there
abbrev IsPending : Option Accepted → RepoState → Type 0
IsPending pending c = (e : Accepted) × (pending ≡ Some e) × IsRight c e

-- what the events behind others tell of the store, after these were told
record Tells (done rest : List Event) (t : Told) : Type 0 where
  failures : t.failures ≤ (told_from t rest).failures
  bounded : (told_from t rest).failures ≤ last_count
  stays : t.halted ≡ true → rest ≡ []
  halts : t.halted ≡ false → (told_from t rest).halted ≡ true
      → HasRisen t.failures (told_from t rest).failures × IsPending (told_from t rest).pending (state_of (done ++ rest))

risen_le : (a b : ℕ) → a ≤ last_count → HasRisen a b → a ≤ b
risen_le a b bound (inl less) = omega (arith, less)
risen_le a b bound (inr last) = subst (λ (n : ℕ). a ≤ n) (sym last) bound

risen_on : (a b c : ℕ) → HasRisen a b → b ≤ c → c ≤ last_count → HasRisen a c
risen_on a b c (inl less) le bound = inl (omega (arith, less, le))
risen_on a b c (inr last) le bound = inr (omega (arith, last, le, bound))

on_behind : (done rest : List Event) (x : Event) (t : Told) → Tells (done ++ x ∷ []) rest t → (t.halted ≡ false) → (told_from t rest).halted ≡ true
    → HasRisen t.failures (told_from t rest).failures × IsPending (told_from t rest).pending (state_of (done ++ x ∷ rest))
on_behind done rest x t tells off on =
    let h = tells.halts off on in
    (h.0, subst (λ (l : List Event). IsPending (told_from t rest).pending (state_of l)) (append_assoc done (x ∷ []) rest) h.1)

halts_here : (done rest : List Event) (by : ℕ) (e : Accepted) (n : ℕ) (t : Told) → 0 < length done → rest ≡ [] → HasRisen t.failures n → IsRight (state_of done) e
    → HasRisen t.failures (told_from (told true n (Some e)) rest).failures × IsPending (told_from (told true n (Some e)) rest).pending (state_of (done ++ Fails by e true n ∷ rest))
halts_here done rest by e n t lt none risen right =
    subst (λ (l : List Event). HasRisen t.failures (told_from (told true n (Some e)) l).failures × IsPending (told_from (told true n (Some e)) l).pending (state_of (done ++ Fails by e true n ∷ l)))
    (sym none) (risen, (e, refl, subst (λ (c : RepoState). IsRight c e) (sym (state_still done by e true n lt)) right))

store_tells : (done rest : List Event) (t : Told) → told_in done ≡ t → 0 < length done → MayAllFollow done rest → t.failures ≤ last_count → Tells done rest t
store_tells done [] t is lt a bound = record { failures = le_refl t.failures; bounded = bound; stays = λ h. refl; halts = λ off on. absurd (true≢false (sym on ∙ off)) }
store_tells done (Opened c n ∷ rest) t is lt a bound = absurd (is_empty done lt a.0.0)
store_tells done (Makes by e ∷ rest) t is lt a bound =
    let next : Tells (done ++ Makes by e ∷ []) rest t = store_tells (done ++ Makes by e ∷ []) rest t (told_makes done by e ∙ is) (longer_yet done (Makes by e ∷ []) lt) a.1 bound in
    record {
      failures = next.failures;
      bounded = next.bounded;
      stays = λ h. absurd (true≢false (sym h ∙ (sym (ap (λ (x : Told). x.halted) is) ∙ a.0.1)));
      halts = on_behind done rest (Makes by e) t next;
    }
store_tells done (Fails by e false n ∷ rest) t is lt a bound =
    let t' : Told = told t.halted n t.pending in
    let there : told_in (done ++ Fails by e false n ∷ []) ≡ t' = told_fails done by e false n ∙ ap (λ (x : Told). told x.halted n x.pending) is in
    let next : Tells (done ++ Fails by e false n ∷ []) rest t' = store_tells (done ++ Fails by e false n ∷ []) rest t' there (longer_yet done (Fails by e false n ∷ []) lt) a.1 a.0.4 in
    let risen : HasRisen t.failures n = subst (λ (x : Told). HasRisen x.failures n) is a.0.3 in
    record {
      failures = le_trans (risen_le t.failures n bound risen) next.failures;
      bounded = next.bounded;
      stays = λ h. absurd (true≢false (sym h ∙ (sym (ap (λ (x : Told). x.halted) is) ∙ a.0.1)));
      halts = λ off on. (risen_on t.failures n (told_from t' rest).failures risen next.failures next.bounded, (on_behind done rest (Fails by e false n) t' next off on).1);
    }
store_tells done (Fails by e true n ∷ rest) t is lt a bound =
    let t' : Told = told true n (Some e) in
    let next : Tells (done ++ Fails by e true n ∷ []) rest t' = store_tells (done ++ Fails by e true n ∷ []) rest t' (told_fails done by e true n) (longer_yet done (Fails by e true n ∷ []) lt) a.1 a.0.4 in
    let risen : HasRisen t.failures n = subst (λ (x : Told). HasRisen x.failures n) is a.0.3 in
    record {
      failures = le_trans (risen_le t.failures n bound risen) next.failures;
      bounded = next.bounded;
      stays = λ h. absurd (true≢false (sym h ∙ (sym (ap (λ (x : Told). x.halted) is) ∙ a.0.1)));
      halts = λ off on. halts_here done rest by e n t lt (next.stays refl) risen a.0.2;
    }

-- the count of failures is one
pub counts_up : (log : List Event) → IsHistory log → (told_in log).failures ≤ last_count
counts_up [] h = omega arith
counts_up (Opened c n ∷ log) h = (store_tells (Opened c n ∷ []) log (told false n None) refl (omega arith) h.1 h.0.2).bounded
counts_up (Makes by e ∷ log) h = absurd (omega (arith, h.0.0))
counts_up (Fails by e halts n ∷ log) h = absurd (omega (arith, h.0.0))

-- a beginning of a history goes on as the history
pub list_goes_on : (xs ys : List Event) → 0 < length xs → IsHistory xs → IsHistory ys → IsPrefix xs ys → ListGoesOn xs ys
list_goes_on xs ys lt start history p =
    let rest = p.0 in
    let whole : ys ≡ xs ++ rest = sym p.1 in
    let follow : MayAllFollow xs rest = follow_split [] xs rest (subst IsHistory whole history) in
    let right : AreRight (state_of xs) (changes_in rest) = right_after xs rest lt follow in
    let tells : Tells xs rest (told_in xs) = store_tells xs rest (told_in xs) refl lt follow (counts_up xs start) in
    let told_whole : told_in ys ≡ told_from (told_in xs) rest = ap told_in whole ∙ told_more (told false 0 None) xs rest in
    record {
      begun = subst (λ (l : List Event). 0 < length l) p.1 (longer_yet xs rest lt);
      begins = p;
      goes_on = λ own. record {
        first = ap first_in whole ∙ first_more xs rest lt;
        more = changes_in rest;
        changes = ap changes_in whole ∙ changes_more xs rest;
        right = right;
        own = refl;
        halted = λ h. ap (λ (l : List Event). moment_of l own) (whole ∙ (ap (λ (l : List Event). xs ++ l) (tells.stays h) ∙ append-nil xs));
        failures = subst (λ (x : Told). (told_in xs).failures ≤ x.failures) (sym told_whole) tells.failures;
        halts = λ off on.
            let h = tells.halts off (sym (ap (λ (x : Told). x.halted) told_whole) ∙ on) in (
              subst (λ (x : Told). HasRisen (told_in xs).failures x.failures) (sym told_whole) h.0,
              (h.1.0, ap (λ (x : Told). x.pending) told_whole ∙ h.1.1, subst (λ (l : List Event). IsRight (state_of l) h.1.0) (sym whole) h.1.2),
            );
      };
    }

-- a repository that has a history is sound
pub history_sound : (log : List Event) → 0 < length log → IsHistory log → AreSound (state_of log).revisions
history_sound [] lt h = absurd (omega (arith, lt))
history_sound (Makes by e ∷ log) lt h = absurd (omega (arith, h.0.0))
history_sound (Fails by e halts n ∷ log) lt h = absurd (omega (arith, h.0.0))
history_sound (Opened c n ∷ log) lt h = all_sound c (changes_in log) h.0.1 (right_after (Opened c n ∷ []) log (omega arith) h.1)

-- a right change leads to what it makes
pub next_state : (list : List Event) (by : ℕ) (e : Accepted) (c d : RepoState) → 0 < length list → c ≡ state_of list → d ≡ changed c e → d ≡ state_of (list ++ Makes by e ∷ [])
next_state list by e c d begun stood made = made ∙ (ap (λ (x : RepoState). changed x e) stood ∙ sym (state_more list by e begun))
