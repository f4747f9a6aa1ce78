-- Which users a file has, and which of its lines is the first that breaks a rule.
use Rattle.std.specs.{Prelude.{◌≡◌, ℕ, ◌+◌, Bool, true, false, not, ◌||◌, is_some, List, [], ◌∷◌, ◌++◌, length, map, MatchBool}, List.{list_any, flat_map}}
use Rattle.std.specs.Str.Lines.{lines}
use Rattle.cram.specs.{declared.fault.CramFault.CramFault, Login.{Login, password_of}, Line.{Line, blank, comment, header, pair, wrong, line_of}}
use Rattle.cram.specs.declared.fault.CramFault.TheVariants as faults

-- what the lines of a file say; a line ends with LF or CRLF, the last one also with the file
abbrev pub file_lines : List ℕ → List Line
file_lines bytes = map line_of (lines bytes)

abbrev pub is_header : Line → Bool
is_header blank = false
is_header comment = false
is_header header = true
is_header (pair login) = false
is_header wrong = false

abbrev pub has_header : List Line → Bool
has_header before = list_any is_header before

abbrev pub logins_in : Line → List Login
logins_in blank = []
logins_in comment = []
logins_in header = []
logins_in (pair login) = login ∷ []
logins_in wrong = []

-- the users of the pairs, in order
abbrev pub logins_of : List Line → List Login
logins_of file = flat_map logins_in file

-- Behind these lines this one breaks a rule: it is wrong by itself, a second header, a pair before
-- the
-- header, or a pair whose name has a password already.
abbrev pub breaks : List Line → Line → Bool
breaks before blank = false
breaks before comment = false
breaks before header = has_header before
breaks before (pair login) =
    not (has_header before) || is_some (password_of login.name (logins_of before))
breaks before wrong = true

-- no line breaks a rule behind those before it
abbrev pub AreRight : List Line → Type 0
AreRight file =
    (before rest : List Line) (line : Line) → file ≡ before ++ line ∷ rest
    → breaks before line ≡ false

-- the first line that breaks a rule, counted from 1
pub record IsFirstWrong (file : List Line) (number : ℕ) : Type 0 where
  pub before : List Line
  pub line : Line
  pub rest : List Line
  pub whole : file ≡ before ++ line ∷ rest
  pub right : AreRight before
  pub breaks_rule : breaks before line ≡ true
  pub counted : number ≡ length before + 1

-- which fault a file has
abbrev pub IsFileFault : List Line → CramFault → Type 0
IsFileFault file (faults.BadUsers number) = IsFirstWrong file number
IsFileFault file faults.NoMemory = Unit {0}
IsFileFault file faults.MalformedAnswer = ⊥
IsFileFault file faults.UnknownUser = ⊥
IsFileFault file faults.WrongPassword = ⊥

-- what these lines say together: whether one is the header, and the users
pub record IsSaidBy (before : List Line) (headed : Bool) (logins : List Login) : Type 0 where
  pub header_is : headed ≡ has_header before
  pub logins_are : logins ≡ logins_of before

-- behind these lines the next is kept, and this is what all of them say; or it breaks a rule
abbrev pub TakesLine : List Line → Line → Bool → Bool → List Login → Type 0
TakesLine before line kept headed logins =
    MatchBool kept ((breaks before line ≡ false)
    × IsSaidBy (before ++ line ∷ []) headed logins) (breaks before line ≡ true)
