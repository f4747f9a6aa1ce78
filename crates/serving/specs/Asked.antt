-- What a server is asked to serve by, and what it serves by.
use Rattle.std.specs.{Net.Grammar.IsSocketText, Prelude.{◌≡◌, ℕ, List, [], ◌∷◌, None, Some, map, string_bytes, ⊤}}
use Rattle.std.specs.declared.net.socket_addr.SocketAddr.{SocketAddr}
use Rattle.cram.specs.UsersFile.{AreRight, file_lines, logins_of}
use Rattle.command_line.specs.declared.order.Service.{Service}
use Rattle.serving.specs.declared.settings.Settings.{Settings}

-- the name that was asked for, the users of some file whose lines are right, and whether the properties
-- of revisions may be changed
abbrev pub OptionsAreAsked : Service → Settings → Type 0
OptionsAreAsked service s =
    (bytes : List ℕ) × AreRight (file_lines bytes) × (s.options ≡ record {
      name = string_bytes service.name;
      account = None;
      users = Some (logins_of (file_lines bytes));
      revprops = service.revprops;
    })

-- each address is what the text in its place says
abbrev pub AreSocketTexts : List (List ℕ) → List SocketAddr → Type 0
AreSocketTexts [] [] = ⊤
AreSocketTexts [] (address ∷ addresses) = ⊥
AreSocketTexts (text ∷ texts) [] = ⊥
AreSocketTexts (text ∷ texts) (address ∷ addresses) =
    IsSocketText text address × AreSocketTexts texts addresses

-- where the server listens, whether it is quiet, and whether it ends once changes have come to a halt
abbrev pub PlaceIsAsked : Service → Settings → Type 0
PlaceIsAsked service s =
    AreSocketTexts (map string_bytes service.listen.items) s.addresses.items × (s.is_quiet ≡ service.quiet)
    × (s.exits_on_halt ≡ service.exit_on_halt)

-- how many sessions there may be at a time, and how many of one address
abbrev pub CountsAreAsked : Service → Settings → Type 0
CountsAreAsked service s = (s.sessions ≡ service.sessions) × (s.per_address ≡ service.per_address)
