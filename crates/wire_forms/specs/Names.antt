-- Tables of names.
use Rattle.std.specs.Prelude.{ℕ, List, [], ◌∷◌, Option, Some, None, if◌then◌else◌}
use Rattle.wire_forms.specs.Forms.{is_name}

-- what has this name in a table: the first, if there are several
abbrev pub named : {T : Type 0} → List (List ℕ × T) → List ℕ → Option T
named [] name = None
named (row ∷ rows) name = if is_name name row.0 then Some row.1 else named rows name
