-- What a change of locks, and one of a property of a revision, leave as it was.
use Rattle.std.proofs.{Common.{◌≡◌, ◌≢◌, ℕ, zero, suc, true, List, [], ◌∷◌, refl, ap}, lemmas.Bool.false≢true}
use Rattle.repo_api.specs.{Accepted.{Accepted, changed}, Accepted.Accepted.{ChangesProperty, Commits, Locks, Releases, Unlocks}}
use Rattle.repo_api.specs.{LockRuns.{HasSameOtherwise, HasSameRevisions, is_of_locks}, States.RepoState, declared.property_ask.PropertyAsk.PropertyAsk}
use Rattle.std.specs.Prelude.{slice_get, slice_set}

pub same_revisions : (c : RepoState) (e : Accepted) → is_of_locks e ≡ true → HasSameRevisions c (changed c e)
same_revisions c (Commits ask t) h = absurd (false≢true h)
same_revisions c (Locks ask) h = record { uuid = refl; revisions = refl; properties = refl }
same_revisions c (Unlocks ask) h = record { uuid = refl; revisions = refl; properties = refl }
same_revisions c (Releases user tokens) h = record { uuid = refl; revisions = refl; properties = refl }
same_revisions c (ChangesProperty ask) h = absurd (false≢true h)

others_stay : {A : Type 0} (xs : List A) (n m : ℕ) (x : A) → m ≢ n → slice_get (slice_set xs n x) m ≡ slice_get xs m
others_stay [] n m x apart = refl
others_stay (y ∷ ys) zero zero x apart = absurd (apart refl)
others_stay (y ∷ ys) zero (suc m) x apart = refl
others_stay (y ∷ ys) (suc n) zero x apart = refl
others_stay (y ∷ ys) (suc n) (suc m) x apart = others_stay ys n m x (λ same. apart (ap suc same))

pub same_otherwise : (c : RepoState) (ask : PropertyAsk) → HasSameOtherwise ask.revision c (changed c (ChangesProperty ask))
same_otherwise c ask =
    record { uuid = refl; revisions = refl; properties = λ m apart. others_stay c.properties ask.revision m _ apart; locks = refl }
