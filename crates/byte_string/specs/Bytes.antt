-- Bytes, of which a few are held in place.
use Rattle.std.specs.Prelude.{◌≤◌, ℕ, List, take}
use Rattle.byte_string.specs.declared.Bytes.{Bytes}

-- the bytes that are held
abbrev pub list_of : Bytes → List ℕ
list_of (Bytes.Short count held) = take count held
list_of (Bytes.Long items) = items.items

-- a few are at most 30
abbrev pub IsWithin : Bytes → Type 0
IsWithin (Bytes.Short count held) = count ≤ 30
IsWithin (Bytes.Long items) = 0 ≤ 0
