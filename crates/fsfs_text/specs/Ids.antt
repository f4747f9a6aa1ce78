-- Ids of node revisions.
use Rattle.std.specs.Prelude.{ℕ, ◌-◌, ◌^◌, List, ◌∷◌, ◌++◌, codes, Option, Some, None}
use Rattle.fsfs_text.specs.{Numerals.{decimal_of, number_of, numeral}, Splits.{split_once, without_prefix}, Maybe.◌>>=◌, declared.id.IdPart.IdPart}
use Rattle.fsfs_text.specs.declared.id.FileId.{FileId}

-- the number in base 36, and behind `-` the revision that it is counted in
abbrev pub in_revision : List ℕ → Option ℕ → List ℕ
in_revision text None = text
in_revision text (Some revision) = text ++ 45 ∷ numeral 10 revision

abbrev pub part_text : IdPart → List ℕ
part_text part = in_revision (numeral 36 part.number) part.revision

-- `<node>.<copy>.r<revision>/<offset>`
abbrev pub id_text : FileId → List ℕ
id_text id =
    part_text id.node ++ 46 ∷ (part_text id.copy ++ 46 ∷ (114 ∷ (numeral 10 id.revision
    ++ 47 ∷ numeral 10 id.offset)))

-- a number in base 36, or one and a revision
abbrev pub part_from : List ℕ → Option (List ℕ × List ℕ) → Option IdPart
part_from text None = do
  number ← number_of 36 (2 ^ 128 - 1) text
  Some (record { number = number; revision = None })
part_from text (Some p) = do
  number ← number_of 36 (2 ^ 128 - 1) p.0
  revision ← decimal_of (2 ^ 32 - 1) p.1
  Some (record { number = number; revision = Some revision })

unfoldable pub part_of : List ℕ → Option IdPart
part_of text = part_from text (split_once 45 text)

-- the id that a text spells
unfoldable pub id_of : List ℕ → Option FileId
id_of text = do
  (node, rest) ← split_once 46 text
  (copy, rest) ← split_once 46 rest
  rest ← without_prefix (codes "r") rest
  (revision, offset) ← split_once 47 rest
  node ← part_of node
  copy ← part_of copy
  revision ← decimal_of (2 ^ 32 - 1) revision
  offset ← decimal_of (2 ^ 64 - 1) offset
  Some (record { node = node; copy = copy; revision = revision; offset = offset })
