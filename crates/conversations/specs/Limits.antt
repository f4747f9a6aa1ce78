-- How much a session may hold of an item that is not whole yet.
use Rattle.std.specs.Prelude.{ℕ, ◌+◌, ◌*◌, nat_lt, Bool, ◌||◌, List, length, Option, Some, None}
use Rattle.machine.specs.Stages.{SessionState, user_in}
use Rattle.session.specs.Awaiting.{awaited}
use Rattle.guests.specs.{declared.awaited.Awaited.Awaited, declared.awaited.Awaited.TheVariants.{Login, Command, Report, Edit, Nothing}}
use Rattle.conversations.specs.declared.limits.TheConstants.{FRAME, STRING, FEW, MANY, MOST}

-- so many bytes, by what is awaited
abbrev pub most_bytes : Awaited → ℕ
most_bytes Login = FRAME
most_bytes Command = 2 * STRING + FRAME
most_bytes Report = FRAME
most_bytes Edit = STRING + FRAME
most_bytes Nothing = 0

-- so many items, by what is awaited and who has logged in
abbrev pub most_items : Awaited → Option (List ℕ) → ℕ
most_items Login user = FEW
most_items Command None = MANY
most_items Command (Some user) = MOST
most_items Report user = FEW
most_items Edit user = FEW
most_items Nothing user = 0

-- whether there are more bytes than there may be, or more items in what they go on to
abbrev pub passes_limits : SessionState → ℕ → Bool
passes_limits s items =
    nat_lt (most_bytes (awaited s.phase)) (length s.rest)
    || nat_lt (most_items (awaited s.phase) (user_in s.phase)) items
