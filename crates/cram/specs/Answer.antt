-- A challenge, and which answers to it are right (RFC 2195).
use Rattle.std.specs.{Prelude.{◌≡◌, ◌≢◌, ℕ, nat_le, Bool, true, ◌&&◌, ◌||◌, List, ◌∷◌, ◌++◌, length, codes, decimal, Option, Some, None}, List.list_all}
use Rattle.hex.specs.Hex.{encode_lower}
use Rattle.cram.specs.{declared.fault.CramFault.CramFault, Hmac.hmac_of, Login.{Login, password_of}, Line.is_user_name}
use Rattle.cram.specs.declared.fault.CramFault.TheVariants as faults

-- `<nonce.moment@name>`, the numbers in decimal
abbrev pub challenge_text : ℕ → ℕ → List ℕ → List ℕ
challenge_text nonce moment name =
    codes "<" ++ decimal nonce ++ codes "." ++ decimal moment ++ codes "@" ++ name ++ codes ">"

-- `0` to `9`, or `a` to `f`
abbrev pub is_lower_digit : ℕ → Bool
is_lower_digit b = (nat_le 48 b && nat_le b 57) || (nat_le 97 b && nat_le b 102)

-- a name, one space and 32 lower-case hexadecimal digits
pub record IsAnswer (answer name digits : List ℕ) : Type 0 where
  pub whole : answer ≡ name ++ 32 ∷ digits
  pub named : is_user_name name ≡ true
  pub counted : length digits ≡ 32
  pub lower : list_all is_lower_digit digits ≡ true

-- the digits of the challenge's digest under a password
abbrev pub digits_under : List ℕ → List ℕ → List ℕ
digits_under password challenge = encode_lower (hmac_of password challenge)

-- the answer is the user's name, one space and the digits under the user's password
pub record IsRightAnswer (challenge : List ℕ) (users : List Login) (answer name : List ℕ) : Type 0 where
  pub password : List ℕ
  pub known : password_of name users ≡ Some password
  pub named : is_user_name name ≡ true
  pub whole : answer ≡ name ++ 32 ∷ digits_under password challenge

-- whose right answer it is: this user's, or nobody's
abbrev pub IsAnswerOf : List ℕ → List Login → List ℕ → Option (List ℕ) → Type 0
IsAnswerOf challenge users answer (Some name) = IsRightAnswer challenge users answer name
IsAnswerOf challenge users answer None =
    (name : List ℕ) → IsRightAnswer challenge users answer name → ⊥

-- no user has the name
pub record IsUnknown (users : List Login) (answer : List ℕ) : Type 0 where
  pub name : List ℕ
  pub digits : List ℕ
  pub form : IsAnswer answer name digits
  pub unknown : password_of name users ≡ None

-- the digits are others than those under the user's password
pub record IsWrong (challenge : List ℕ) (users : List Login) (answer : List ℕ) : Type 0 where
  pub name : List ℕ
  pub digits : List ℕ
  pub password : List ℕ
  pub form : IsAnswer answer name digits
  pub known : password_of name users ≡ Some password
  pub differs : digits ≢ digits_under password challenge

-- which fault an answer has
abbrev pub IsAnswerFault : List ℕ → List Login → List ℕ → CramFault → Type 0
IsAnswerFault challenge users answer faults.MalformedAnswer =
    (name digits : List ℕ) → IsAnswer answer name digits → ⊥
IsAnswerFault challenge users answer faults.UnknownUser = IsUnknown users answer
IsAnswerFault challenge users answer faults.WrongPassword = IsWrong challenge users answer
IsAnswerFault challenge users answer (faults.BadUsers number) = ⊥
IsAnswerFault challenge users answer faults.NoMemory = Unit {0}
