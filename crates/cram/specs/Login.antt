-- The users that may log in.
use Rattle.std.specs.{Prelude.{ℕ, List, [], ◌∷◌, Option, Some, None, if◌then◌else◌}, Str.bytes_eq}

pub record Login : Type 0 where
  pub name : List ℕ
  pub password : List ℕ

-- the password of the user of that name, if there is one
abbrev pub password_of : List ℕ → List Login → Option (List ℕ)
password_of name [] = None
password_of name (login ∷ logins) =
    if bytes_eq login.name name then Some login.password else password_of name logins
