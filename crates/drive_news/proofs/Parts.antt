-- Changes one after another.
use Rattle.std.proofs.Common.{◌≡◌, ℕ, List, [], ◌∷◌, ◌++◌, Option, ap, ◌∙◌}
use Rattle.std.specs.Prelude.{Result, Ok, Err, IfOk, IsOkAnd}
use Rattle.drive_visits.specs.Own.{Change}

-- one change more, by a value that was made
pub one_more : {E : Type 0} (name : List ℕ) (made : Result (Option (List ℕ)) E) (before more seen : List Change) (value : Option (List ℕ))
    → before ≡ seen → IfOk made (λ v. v ≡ value)
    → IsOkAnd made (λ v. more ≡ before ++ (name, v) ∷ []) → more ≡ seen ++ (name, value) ∷ []
one_more name (Ok v) before more seen value same is told =
    told ∙ ap (λ b. b ++ (name, v) ∷ []) same ∙ ap (λ w. seen ++ (name, w) ∷ []) is
one_more name (Err e) before more seen value same is told = elim told [ ]
