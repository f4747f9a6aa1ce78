-- What a server is started with.
use Rattle.std.specs.{Prelude.{ℕ, Bool, ◌&&◌, ◌||◌, ◌==◌, not, nat_lt, nat_le, List, ◌∷◌, [], length, Option}, Char.is_ascii_alphanumeric, List.list_all}
use Rattle.machine.specs.declared.options.TheConstants.{NAME_LIMIT}
use Rattle.wire_forms.specs.Forms.{is_name}
use Rattle.cram.specs.Login.{Login}

-- a letter, a digit, `-`, `_` or `.`
abbrev pub is_name_byte : ℕ → Bool
is_name_byte b = is_ascii_alphanumeric b || (b == 45) || (b == 95) || (b == 46)

abbrev pub has_name_length : List ℕ → Bool
has_name_length name = nat_lt 0 (length name) && nat_le (length name) NAME_LIMIT

-- `.` or `..`
abbrev pub is_dots : List ℕ → Bool
is_dots name = is_name name (46 ∷ []) || is_name name (46 ∷ 46 ∷ [])

-- 1 to 64 such bytes, and not `.` or `..`
abbrev pub is_repository_name : List ℕ → Bool
is_repository_name name = has_name_length name && list_all is_name_byte name && not (is_dots name)

-- the repository's name, the account that a client came as where that is known, the users with their
-- passwords where there is a file of them, and whether revision properties may be changed
pub record Settings : Type 0 where
  pub name : List ℕ
  pub account : Option (List ℕ)
  pub users : Option (List Login)
  pub revprops : Bool
