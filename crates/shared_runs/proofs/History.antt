-- What an author has made, in the history of a shared repository.
use Rattle.std.proofs.Common.{◌≡◌, ℕ, Bool, List, ◌∷◌, ◌++◌, ap, ◌∙◌}
use Rattle.std.specs.Prelude.{if◌then◌else◌}
use Rattle.repo_api.specs.Accepted.{Accepted}
use Rattle.published.specs.{Events.{Event, own_in}, Events.Event.Makes}
use Rattle.published.proofs.Histories.{own_more, same_number}

-- a change stands between what its author made before it and after it
pub own_around : (author : ℕ) (before : List Event) (change : Accepted) (later : List Event)
    → own_in author (before ++ Makes author change ∷ later)
    ≡ own_in author before ++ change ∷ own_in author later
own_around author before change later =
    own_more author before (Makes author change ∷ later)
    ∙ ap (λ (b : Bool). own_in author before
    ++ (if b then change ∷ own_in author later else own_in author later)) (same_number author)
