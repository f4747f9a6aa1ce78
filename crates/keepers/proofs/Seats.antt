-- Seats, one after another, each with the next number.
use Rattle.std.proofs.Common.{◌≡◌, ◌⊎◌, inl, inr, ℕ, zero, suc, ◌+◌, List, [], ◌∷◌, ◌++◌, length, Some, slice_get, refl, sym, ap, ◌∙◌, ⊎_elim}
use Rattle.published.specs.Events.{Event, Known, knowing}

get_more : {A : Type 0} (xs : List A) (x : A) (n : ℕ) (s : A) → slice_get (xs ++ x ∷ []) n ≡ Some s
    → (slice_get xs n ≡ Some s) ⊎ ((n ≡ length xs) × (s ≡ x))
get_more [] x zero s is = inr (refl, cc is)
get_more [] x (suc n) s is = absurd (cc is)
get_more (y ∷ xs) x zero s is = inl is
get_more (y ∷ xs) x (suc n) s is = ⊎_elim (λ a. inl a) (λ b. inr (ap suc b.0, b.1)) (get_more xs x n s is)

abbrev pub AreNumbered : List Known → List Event → Type 0
AreNumbered seats list = (n : ℕ) (seat : Known) → slice_get seats n ≡ Some seat → seat ≡ knowing n list

pub numbered_more : (seats : List Known) (seat : Known) (list : List Event) → AreNumbered seats list → seat ≡ knowing (length seats) list
    → AreNumbered (seats ++ seat ∷ []) list
numbered_more seats seat list are is n s at = ⊎_elim (λ a. are n s a) (λ b. b.1 ∙ (is ∙ ap (λ m. knowing m list) (sym b.0))) (get_more seats seat n s at)
