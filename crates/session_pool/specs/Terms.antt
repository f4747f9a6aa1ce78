-- By what a session is served.
use Rattle.std.specs.Prelude.{◌≡◌, ◌⊎◌, ℕ, List, None, Some}
use Rattle.cram.specs.UsersFile.{AreRight, file_lines, logins_of}
use Rattle.machine.specs.Settings.{Settings}

-- the options of the start with the users of some file whose lines are right
abbrev pub IsReadAgain : Settings → Settings → Type 0
IsReadAgain start s =
    (bytes : List ℕ) × AreRight (file_lines bytes)
    × (s ≡ record start { users = Some (logins_of (file_lines bytes)) })

-- the options of the start for a client that came as some account: it logs in by no password
abbrev pub IsHandedOver : Settings → Settings → Type 0
IsHandedOver start s =
    (account : List ℕ) × (s ≡ record start { account = Some account; users = None })

abbrev pub AreTerms : Settings → Settings → Type 0
AreTerms start s = (s ≡ start) ⊎ (IsReadAgain start s ⊎ IsHandedOver start s)
