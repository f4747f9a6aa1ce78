-- How long a client may send nothing. Moments and times are in milliseconds.
use Rattle.std.specs.Prelude.{◌-◌, ℕ, Bool, true, false, ◌&&◌, ◌||◌, not, nat_le, nat_lt, length, List, if◌then◌else◌, Option, Some, None}
use Rattle.std.specs.List.{filter, list_all}
use Rattle.guests.specs.{declared.awaited.Awaited.Awaited, declared.awaited.Awaited.TheVariants.{Login, Command, Report, Edit, Nothing}}
use Rattle.guests.specs.{declared.guest.Guest.Guest, declared.silence.Ending.Ending, declared.silence.Ending.TheVariants.{NoLogin, Silent, GivesPlace}}

-- whether what is awaited belongs to a login
abbrev pub is_of_login : Awaited → Bool
is_of_login Login = true
is_of_login Command = false
is_of_login Report = false
is_of_login Edit = false
is_of_login Nothing = false

-- for how long a session's client has sent nothing: not at all while the session does something
abbrev pub silence_at : ℕ → Guest → ℕ
silence_at now g = if g.is_waiting then now - g.since else 0

-- how long a client may send nothing while others wait for a place, by what is awaited of it and
-- whether it has ever sent anything; none where it may for longer: its edit would be lost
abbrev pub patience : Awaited → Bool → Option ℕ
patience Login true = Some 120000
patience Login false = Some 10000
patience Command sent = Some 10000
patience Report sent = Some 120000
patience Edit sent = None
patience Nothing sent = None

-- whether a time is as long as a limit, if there is one
abbrev pub reaches : Option ℕ → ℕ → Bool
reaches None time = false
reaches (Some limit) time = nat_le limit time

-- whether a session gives its place up as soon as somebody waits for it
abbrev pub is_ready_at : ℕ → Guest → Bool
is_ready_at now g = not g.leaves && reaches (patience g.awaited g.has_sent) (silence_at now g)

-- why a session ends, whoever waits: its login has taken two minutes, or its client is silent for
-- an hour
abbrev pub ending_at : ℕ → Guest → Option Ending
ending_at now g =
    if is_of_login g.awaited && nat_le 120000 (now - g.login_since) then Some NoLogin
    else if nat_le 3600000 (silence_at now g) then Some Silent
    else None

-- whether no session has been silent for longer than this one, of those that give their places up
abbrev pub is_longest_silent : ℕ → Guest → List Guest → Bool
is_longest_silent now g guests =
    list_all (λ other. not (is_ready_at now other) || nat_le g.since other.since) guests

-- the sessions that do not give their places up
abbrev pub staying : List Guest → List Guest
staying guests = filter (λ g. not g.leaves) guests

-- whether more clients want a place than are free, or are being given up, of so many places
abbrev pub is_wanted : ℕ → ℕ → List Guest → Bool
is_wanted wanted places guests = nat_lt (places - length (staying guests)) wanted

-- whether a session gives its place up at a moment, where so many clients want one of so many places
abbrev pub gives_place : ℕ → Guest → List Guest → ℕ → ℕ → Bool
gives_place now g guests wanted places =
    is_ready_at now g && is_longest_silent now g guests && is_wanted wanted places guests

-- why a session ends at a moment, if it does
abbrev pub ending : ℕ → Guest → List Guest → ℕ → ℕ → Option Ending
ending now g guests wanted places = by (ending_at now g)
  where
    by : Option Ending → Option Ending
    by (Some early) = Some early
    by None = if gives_place now g guests wanted places then Some GivesPlace else None
