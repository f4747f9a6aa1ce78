-- A path in a revision, as lines name it.
use Rattle.std.specs.Prelude.{ℕ, ◌-◌, ◌^◌, List, ◌∷◌, ◌++◌, Option, Some}
use Rattle.fsfs_text.specs.{Numerals.{decimal_of, numeral}, Splits.split_once, Maybe.◌>>=◌, declared.place.Place.Place}

-- `<revision> <path>`
abbrev pub place_text : Place → List ℕ
place_text place = numeral 10 place.revision ++ 32 ∷ place.path

unfoldable pub place_of : List ℕ → Option Place
place_of text = do
  (digits, path) ← split_once 32 text
  revision ← decimal_of (2 ^ 32 - 1) digits
  Some (record { revision = revision; path = path })
