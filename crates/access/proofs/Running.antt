-- One call after another, and a stop in one of them.
use Rattle.std.proofs.Common.{◌≡◌, ◌⊎◌, inl, inr, ⊎_elim, Bool, List, [], ◌∷◌, ◌++◌, true, false, refl, sym, ap, subst, ◌∙◌}
use Rattle.repo_api.specs.{Accepted.{Accepted, AreAccepted, changed, changed_all, IsAccepted}, States.RepoState}
use Rattle.access.specs.{Beginnings.{AreFirst, GoesOnTo, IsAmong, through}, Calls.{AreCalls, IsWithin, after_calls}}
use Rattle.access.proofs.First.{among_split, begins_through}

-- What files stand for: now, where they have those of a repository that contains one of these; and from one moment to
-- another, where a stop at any moment between the two leaves them so, too. Nothing may be done; one thing may be done
-- after another; and what stands behind it is among what it leaves.
pub record AreLasting {A : Type 0} (stands : A → List RepoState → Type 0)
    (leaves : A → A → List RepoState → Type 0) : Type 0 where
  pub stays : (a : A) (cs : List RepoState) → stands a cs → leaves a a cs
  pub joins : (a b c : A) (cs ds : List RepoState) → leaves a b cs → leaves b c ds → leaves a c (cs ++ ds)
  pub rests : (a b : A) (cs : List RepoState) → leaves a b cs → stands b cs

-- ---- the states that a stop leaves

module _ {K A : Type 0} (content : K → RepoState) (files : K → A) (halted : A → Bool) (stands : A → List RepoState → Type 0)
    (leaves : A → A → List RepoState → Type 0) (are : AreLasting stands leaves) where
  -- from where one of these stands, a stop leaves one of them, or what there is within a call
  abbrev Runs : K → List (List Accepted × K) → List RepoState → Type 0
  Runs k calls ds = (cs : List RepoState) × leaves (files k) (files (after_calls k calls)) cs
      × ((c : RepoState) → IsAmong c cs → IsAmong c ds ⊎ IsWithin content k calls c)

  run_further : (k : K) (call : List Accepted × K) (calls : List (List Accepted × K)) (ds : List RepoState)
      → AreCalls content files halted leaves k (call ∷ calls) → stands (files k) ds
      → ((es : List RepoState) → stands (files call.1) es → Runs call.1 calls es)
      → (b : Bool) → halted (files k) ≡ b → Runs k (call ∷ calls) ds
  run_further k call calls ds come stand again true at_halt =
      let same = (come.0.1 at_halt).1 in
      let run = again ds (subst (λ (a : A). stands a ds) (sym same) stand) in (
        run.0,
        subst (λ (a : A). leaves a (files (after_calls call.1 calls)) run.0) same run.1,
        λ c among. ⊎_elim (λ one. inl one) (λ within. inr (inr within)) (run.2 c among),
      )
  run_further k call calls ds come stand again false running =
      let s = come.0.0 running in
      let on_way = through (content k) s.saved in
      let run = again on_way (are.rests (files k) (files call.1) on_way s.stop) in (
        on_way ++ run.0,
        are.joins (files k) (files call.1) (files (after_calls call.1 calls)) on_way run.0 s.stop run.1,
        λ c among. inr (⊎_elim (λ one. inl (s.saved, s.first, one))
            (λ later. ⊎_elim (λ one. inl (s.saved, s.first, one)) (λ within. inr within) (run.2 c later))
            (among_split on_way run.0 c among)),
      )

  runs : (calls : List (List Accepted × K)) (k : K) (ds : List RepoState) → AreCalls content files halted leaves k calls
      → stands (files k) ds → Runs k calls ds
  runs [] k ds come stand = (ds, are.stays (files k) ds stand, λ c among. inl among)
  runs (call ∷ calls) k ds come stand =
      run_further k call calls ds come stand (λ es now. runs calls call.1 es come.1 now) (halted (files k)) refl

  first_within : (k : K) (calls : List (List Accepted × K)) (c : RepoState) → halted (files k) ≡ false
      → AreCalls content files halted leaves k calls → IsAmong c (content k ∷ []) → IsWithin content k calls c
  first_within k [] c running come (inl is) = is
  first_within k [] c running come (inr none) = absurd none
  first_within k (call ∷ calls) c running come (inl is) =
      let s = come.0.0 running in inl (s.saved, s.first, begins_through (content k) s.saved c is)
  first_within k (call ∷ calls) c running come (inr none) = absurd none

  pub run_from : (k : K) (calls : List (List Accepted × K)) → halted (files k) ≡ false → stands (files k) (content k ∷ [])
      → AreCalls content files halted leaves k calls
      → (cs : List RepoState) × leaves (files k) (files (after_calls k calls)) cs
      × ((c : RepoState) → IsAmong c cs → IsWithin content k calls c)
  run_from k calls running stand come =
      let run = runs calls k (content k ∷ []) come stand in (
        run.0,
        run.1,
        λ c among. ⊎_elim (λ one. first_within k calls c running come one) (λ within. within) (run.2 c among),
      )

-- ---- they are beginnings of accepted changes

first_accepted : (c : RepoState) (saved asked made rest : List Accepted) → AreFirst c saved asked → made ++ rest ≡ saved
    → AreAccepted c made
first_accepted c saved asked [] rest first is = tt
first_accepted c [] asked (x ∷ made) rest first is = cc is
first_accepted c (e ∷ es) [] (x ∷ made) rest first is = absurd first
first_accepted c (e ∷ es) (a ∷ asked) (x ∷ made) rest first is =
    let same : x ≡ e = cc is in (
      subst (λ (y : Accepted). IsAccepted c y) (sym same) first.1,
      first_accepted (changed c x) es asked made rest
          (subst (λ (y : Accepted). AreFirst (changed c y) es asked) (sym same) first.2) (cc is),
    )

changed_more : (c : RepoState) (xs ys : List Accepted) → changed_all c (xs ++ ys) ≡ changed_all (changed_all c xs) ys
changed_more c [] ys = refl
changed_more c (x ∷ xs) ys = changed_more (changed c x) xs ys

both_accepted : (c : RepoState) (xs ys : List Accepted) → AreAccepted c xs → AreAccepted (changed_all c xs) ys
    → AreAccepted c (xs ++ ys)
both_accepted c [] ys xs_are ys_are = ys_are
both_accepted c (x ∷ xs) ys xs_are ys_are = (xs_are.0, both_accepted (changed c x) xs ys xs_are.1 ys_are)

goes_on : (c d e : RepoState) (es : List Accepted) → AreAccepted c es → d ≡ changed_all c es → GoesOnTo d e → GoesOnTo c e
goes_on c d e es are is more = (
  es ++ more.0,
  both_accepted c es more.0 are (subst (λ (x : RepoState). AreAccepted x more.0) is more.1),
  more.2 ∙ (ap (λ (x : RepoState). changed_all x more.0) is ∙ sym (changed_more c es more.0)),
)

within_call : (c d : RepoState) (saved asked : List Accepted) → AreFirst c saved asked → IsAmong d (through c saved) → GoesOnTo c d
within_call c d [] asked first (inl is) = ([], tt, is)
within_call c d [] asked first (inr none) = absurd none
within_call c d (e ∷ es) asked first (inl is) = ([], tt, is)
within_call c d (e ∷ es) [] first (inr later) = absurd first
within_call c d (e ∷ es) (a ∷ asked) first (inr later) =
    goes_on c (changed c e) d (e ∷ []) (first.1, tt) refl (within_call (changed c e) d es asked first.2 later)

module _ {K A : Type 0} (content : K → RepoState) (files : K → A) (halted : A → Bool)
    (leaves : A → A → List RepoState → Type 0) where
  call_goes_on : (k : K) (call : List Accepted × K) (calls : List (List Accepted × K))
      → AreCalls content files halted leaves k (call ∷ calls)
      → (b : Bool) → halted (files k) ≡ b → GoesOnTo (content k) (content call.1)
  call_goes_on k call calls come true at_halt = ([], tt, (come.0.1 at_halt).0)
  call_goes_on k call calls come false running =
      let s = come.0.0 running in
      (s.made, first_accepted (content k) s.saved call.0 s.made s.begins.0 s.first s.begins.1, s.makes)

  pub within : (calls : List (List Accepted × K)) (k : K) (c : RepoState) → AreCalls content files halted leaves k calls
      → IsWithin content k calls c → GoesOnTo (content k) c
  within [] k c come is = ([], tt, is)
  within (call ∷ calls) k c come (inl one) = within_call (content k) c one.0 call.0 one.1 one.2
  within (call ∷ calls) k c come (inr later) =
      let next = call_goes_on k call calls come (halted (files k)) refl in
      goes_on (content k) (content call.1) c next.0 next.1 next.2 (within calls call.1 c come.1 later)
