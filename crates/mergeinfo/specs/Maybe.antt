-- Reading one part after another.
use Rattle.std.specs.Prelude.{List, [], ◌∷◌, Option, Some, option_and_then}

infixl 10 ◌>>=◌
-- what is read after it, if it could be read
abbrev pub ◌>>=◌ : {A B : Type 0} → Option A → (A → Option B) → Option B
read >>= next = option_and_then next read

-- what the parts are read as, if each of them could be read
abbrev pub each : {A B : Type 0} → (A → Option B) → List A → Option (List B)
each read [] = Some []
each read (part ∷ parts) = do
  first ← read part
  others ← each read parts
  Some (first ∷ others)
