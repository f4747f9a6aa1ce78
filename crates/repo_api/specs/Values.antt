-- The value of a property, which may be shared.
use Rattle.std.specs.{Prelude.{ℕ, List}, Arc.arc_value}
use Rattle.repo_api.specs.declared.values.Held.{Held}

-- the bytes that are held
abbrev pub bytes_held : Held → List ℕ
bytes_held (Held.Own bytes) = bytes
bytes_held (Held.Shared bytes) = arc_value bytes
