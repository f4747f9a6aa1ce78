-- Names that are found, and whether something is said of them.
use Rattle.std.proofs.Common.{◌≡◌, ◌⊎◌, inl, inr, ⊎_elim, ℕ, Bool, true, false, ◌||◌, not, List, [], ◌∷◌, ◌++◌, Some, None, refl, sym, ◌∙◌}
use Rattle.std.proofs.lemmas.Bool.{false≢true, or_parts}
use Rattle.std.specs.Prelude.{OnOk, Result, Ok, Err}
use Rattle.svnpath.specs.Paths.{Component, PathValue}
use Rattle.repo_api.specs.{Histories.Changed, Readings.{is_name_among, names_at}, States.RepoState}
use Rattle.traces.specs.declared.place.Place.{Place}
use Rattle.replays.specs.{Commands.is_empty, Visiting.{HoldsRunNames, IsAlikeAt, IsQuietName}}

pub on_ok : {T E : Type 0} {P Q : Type 0} → (P → Q) → (r : Result T E) → OnOk r P → OnOk r Q
on_ok f (Ok x) p = f p
on_ok f (Err e) p = tt

-- where all names of a directory are found, the others are quiet
pub all_found : (names : List Component) (c : RepoState) (r : ℕ) (p : PathValue) (run : List Changed) (x : Component)
    → is_name_among names x ≡ is_name_among (names_at c r p) x → (is_name_among names x ≡ true) ⊎ IsQuietName c r p None run x
all_found names c r p run x is = by (is_name_among names x) refl
  where
    by : (b : Bool) → is_name_among names x ≡ b → (is_name_among names x ≡ true) ⊎ IsQuietName c r p None run x
    by true there = inl there
    by false out = inr (sym is ∙ out)

-- where the names of both sides are found, neither has another
pub both_found : (names : List Component) (c : RepoState) (n : ℕ) (p : PathValue) (m : ℕ) (q : PathValue) (mid : Bool) (x : Component)
    → is_name_among names x ≡ ((mid || is_name_among (names_at c n p) x) || is_name_among (names_at c m q) x) → (is_name_among names x ≡ true) ⊎ IsAlikeAt c n p m q x
both_found names c n p m q mid x is = by (is_name_among names x) refl
  where
    by : (b : Bool) → is_name_among names x ≡ b → (is_name_among names x ≡ true) ⊎ IsAlikeAt c n p m q x
    by true there = inl there
    by false out =
        let parts = or_parts (mid || is_name_among (names_at c n p) x) (is_name_among (names_at c m q) x) (sym is ∙ out) in
        inr (inl ((or_parts mid (is_name_among (names_at c n p) x) parts.0).1, parts.1))

-- a name by which neither the directories differ nor the list goes on is quiet
pub quiet_else : (mid names : List Component) (c : RepoState) (r : ℕ) (p : PathValue) (at : Place) (run : List Changed) (x : Component)
    → (is_name_among mid x ≡ true → is_name_among names x ≡ true) → HoldsRunNames names run p
    → (is_name_among mid x ≡ true) ⊎ IsAlikeAt c at.revision at.path r p x → (is_name_among names x ≡ true) ⊎ IsQuietName c r p (Some at) run x
quiet_else mid names c r p at run x keeps holds alike = by (is_name_among names x) refl
  where
    by : (b : Bool) → is_name_among names x ≡ b → (is_name_among names x ≡ true) ⊎ IsQuietName c r p (Some at) run x
    by true there = inl there
    by false out = ⊎_elim (λ among. inl (keeps among)) (λ so. inr (⊎_elim (λ none. inl none) (λ same. inr (same, holds x out)) so)) alike

-- where nothing is said, there are no commands
pub none_if : {X : Type 0} (xs : List X) → not (is_empty xs) ≡ false → xs ≡ []
none_if [] h = refl
none_if (x ∷ xs) h = absurd (false≢true (sym h))

-- something that is said first is said
pub said_first : {X : Type 0} (xs ys : List X) → not (is_empty xs) ≡ true → not (is_empty (xs ++ ys)) ≡ true
said_first [] ys h = absurd (false≢true h)
said_first (x ∷ xs) ys h = refl
