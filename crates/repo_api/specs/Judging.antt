-- What the rules of edits, of locks and of properties of revisions share.
use Rattle.std.specs.Prelude.{ℕ, Bool, false, ◌&&◌, nat_lt, nat_le, List, length, Option, Some, None}
use Rattle.repo_api.specs.declared.limits.TheConstants.{PROPERTY_NAME_LIMIT}

-- the revision that a client has seen is below the one of the last change
abbrev pub is_older : Option ℕ → Option ℕ → Bool
is_older None changed = false
is_older (Some seen) None = false
is_older (Some seen) (Some changed) = nat_lt seen changed

-- a property's name has 1 to 255 bytes
abbrev pub is_property_name : List ℕ → Bool
is_property_name name = nat_lt 0 (length name) && nat_le (length name) PROPERTY_NAME_LIMIT
