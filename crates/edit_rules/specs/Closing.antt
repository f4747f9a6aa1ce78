-- What is open is closed, place by place.
use Rattle.std.specs.{Prelude.{◌≡◌, ℕ, Bool, true, List, Option, Some}, List.filter}
use Rattle.svnpath.specs.Paths.{PathValue}
use Rattle.edit_rules.specs.{Tokens.{Tokens, opened_under, place_of, stays_open}, declared.opened.Opened.Opened}

-- at these places only what stays open is open any more, and nothing else has changed
pub record ClosesAt (kept : Option (List ℕ)) (p : PathValue) (at : PathValue → Bool) (old new : Tokens) : Type 0 where
  pub same : filter (λ e. stays_open kept p e.0 e.1) new ≡ filter (λ e. stays_open kept p e.0 e.1) old
  pub known : (token : List ℕ) (opened : Opened) → opened_under new token ≡ Some opened
      → opened_under old token ≡ Some opened
  pub closed : (token : List ℕ) (opened : Opened) → opened_under new token ≡ Some opened
      → at (place_of token opened) ≡ true → stays_open kept p token opened ≡ true
