-- Parameters that these commands share.
use Rattle.std.specs.Prelude.{ℕ, List, Option, Some, None}
use Rattle.items.specs.Values.{ItemValues, none}
use Rattle.wire_forms.specs.Forms.{◌>>=◌, list_first, optional_string}

-- `? [ token ]`: nothing, or the token of a lock, if there is one, and what stands behind it
abbrev pub token_first : ItemValues → Option (Option (List ℕ) × ItemValues)
token_first none = Some (None, none)
token_first items = do
  (token, rest) ← list_first items
  token ← optional_string token
  Some (token, rest)
