-- A text as the commands of an edit.
use Rattle.std.specs.Prelude.{ℕ, List, [], ◌∷◌, ◌++◌, map, Option, Some, None}
use Rattle.wire_edits.specs.declared.editing.EditorCommand.{EditorCommand}
use Rattle.wire_edits.specs.declared.editing.EditorCommand.TheVariants.{ApplyTextDelta, TextDeltaChunk, TextDeltaEnd}

-- the text, of no bytes where there is none
abbrev pub text_or_empty : Option (List ℕ) → List ℕ
text_or_empty None = []
text_or_empty (Some text) = text

-- a delta, by the strings in which it is sent
abbrev pub text_commands : List ℕ → List (List ℕ) → List EditorCommand
text_commands token chunks =
    ApplyTextDelta token None ∷ (map (TextDeltaChunk token) chunks ++ TextDeltaEnd token ∷ [])
