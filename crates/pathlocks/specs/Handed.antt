-- The tokens that were handed in, as an ordered set of them.
use Rattle.std.specs.{Prelude.{ℕ, Bool, List}, List.list_any}
use Rattle.svnpath.specs.Paths.{same_component}
use denote.Ref.{Bor}

-- the token is one of those that are lent
abbrev pub is_lent : List (Bor (List ℕ)) → List ℕ → Bool
is_lent lent token = list_any (λ t. same_component t.now token) lent
