-- The first of what was asked for, and the states on the way.
use Rattle.std.proofs.Common.{◌≡◌, ◌⊎◌, inl, inr, ⊎_elim, Bool, List, [], ◌∷◌, ◌++◌, true, false, true≢false, refl, sym, ap, subst, ◌∙◌}
use mathlib.Core.List.{IsPrefix}
use Rattle.repo_api.specs.{Accepted.{Accepted, changed, changed_all, IsAccepted}, States.RepoState}
use Rattle.access.specs.{Beginnings.{AreAmong, AreFirst, IsAmong, through}, Calls.CallLeaves}

-- more may be asked for
pub more_asked : (c : RepoState) (es asked more : List Accepted) → AreFirst c es asked → AreFirst c es (asked ++ more)
more_asked c [] asked more first = tt
more_asked c (e ∷ es) [] more none = absurd none
more_asked c (e ∷ es) (a ∷ asked) more first = (first.0, first.1, more_asked (changed c e) es asked more first.2)

pub begins_through : (c : RepoState) (es : List Accepted) (d : RepoState) → d ≡ c → IsAmong d (through c es)
begins_through c [] d is = inl is
begins_through c (e ∷ es) d is = inl is

pub among_split : (cs ds : List RepoState) (d : RepoState) → IsAmong d (cs ++ ds) → IsAmong d cs ⊎ IsAmong d ds
among_split [] ds d among = inr among
among_split (x ∷ cs) ds d (inl is) = inl (inl is)
among_split (x ∷ cs) ds d (inr among) = ⊎_elim (λ a. inl (inr a)) (λ b. inr b) (among_split cs ds d among)

-- the first of one change lead to nothing further than it
one_among : (c : RepoState) (e : Accepted) (saved more : List Accepted) → AreFirst c saved (e ∷ [])
    → AreAmong (through c saved) (through c (e ∷ more))
one_among c e [] more first d (inl is) = inl is
one_among c e [] more first d (inr none) = absurd none
one_among c e (x ∷ (y ∷ ys)) more first d among = absurd first.2
one_among c e (x ∷ []) more first d (inl is) = inl is
one_among c e (x ∷ []) more first d (inr (inl is)) =
    inr (begins_through (changed c e) more d (is ∙ ap (λ (y : Accepted). changed c y) first.0))
one_among c e (x ∷ []) more first d (inr (inr none)) = absurd none

both_among : (c c' : RepoState) (e : Accepted) (saved more : List Accepted) → AreFirst c saved (e ∷ []) → c' ≡ changed c e
    → AreAmong (through c saved ++ through c' more) (through c (e ∷ more))
both_among c c' e saved more first is d among = ⊎_elim (one_among c e saved more first d)
    (λ in_more. inr (subst (λ (x : RepoState). IsAmong d (through x more)) is in_more))
    (among_split (through c saved) (through c' more) d among)

module _ {K A : Type 0} (content : K → RepoState) (files : K → A) (halted : A → Bool) (leaves : A → A → List RepoState → Type 0) where
  -- the save of a change that the rules accept, which was made or not
  pub saved : (k k' : K) (e : Accepted) (made : List Accepted) → halted (files k) ≡ false → IsAccepted (content k) e
      → IsPrefix made (e ∷ []) → content k' ≡ changed_all (content k) made
      → leaves (files k) (files k') (through (content k) (e ∷ [])) → CallLeaves content files halted leaves (e ∷ []) k k'
  saved k k' e made running accepted first is left = (
    (λ _. record { saved = e ∷ []; first = (refl, accepted, tt); made = made; begins = first; makes = is; stop = left }),
    (λ at_halt. absurd (true≢false (sym at_halt ∙ running))),
  )

  -- nothing is done
  pub still : (k : K) (asked : List Accepted) → (halted (files k) ≡ false → leaves (files k) (files k) (content k ∷ []))
      → CallLeaves content files halted leaves asked k k
  still k asked left = (
    (λ running. record { saved = []; first = tt; made = []; begins = ([], refl); makes = refl; stop = left running }),
    (λ _. (refl, refl)),
  )

  -- more may be asked for than what was done
  pub asked_more : (k k' : K) (asked more : List Accepted) → CallLeaves content files halted leaves asked k k'
      → CallLeaves content files halted leaves (asked ++ more) k k'
  asked_more k k' asked more left = (
    (λ running.
        let l = left.0 running in
        record { saved = l.saved; first = more_asked (content k) l.saved asked more l.first; made = l.made; begins = l.begins; makes = l.makes; stop = l.stop }),
    left.1,
  )

  -- a change that was made, and then others
  pub saved_then : (joins : (a b c : A) (cs ds : List RepoState) → leaves a b cs → leaves b c ds → leaves a c (cs ++ ds))
      → (among : (a b : A) (cs ds : List RepoState) → AreAmong cs ds → leaves a b cs → leaves a b ds)
      → (k m l : K) (e : Accepted) (asked : List Accepted) → halted (files k) ≡ false → halted (files m) ≡ false
      → IsAccepted (content k) e → content m ≡ changed (content k) e → CallLeaves content files halted leaves (e ∷ []) k m
      → CallLeaves content files halted leaves asked m l → CallLeaves content files halted leaves (e ∷ asked) k l
  saved_then joins among k m l e asked running goes_on accepted is first then =
      let a = first.0 running in
      let b = then.0 goes_on in (
        (λ _. record {
          saved = e ∷ b.saved;
          first = (refl, accepted, subst (λ (c : RepoState). AreFirst c b.saved asked) is b.first);
          made = e ∷ b.made;
          begins = (b.begins.0, ap (λ (es : List Accepted). e ∷ es) b.begins.1);
          makes = b.makes ∙ ap (λ (c : RepoState). changed_all c b.made) is;
          stop = among (files k) (files l) (through (content k) a.saved ++ through (content m) b.saved) (through (content k) (e ∷ b.saved))
              (both_among (content k) (content m) e a.saved b.saved a.first is)
              (joins (files k) (files m) (files l) (through (content k) a.saved) (through (content m) b.saved) a.stop b.stop);
        }),
        (λ at_halt. absurd (true≢false (sym at_halt ∙ running))),
      )
