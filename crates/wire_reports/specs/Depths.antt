-- Words for depths.
use Rattle.std.specs.Prelude.{ℕ, List, [], ◌∷◌, Option, Some, None, option_map, codes}
use Rattle.items.specs.Values.{ItemValues, none}
use Rattle.wire_forms.specs.{Forms.{◌>>=◌, word_first}, Names.named}
use Rattle.drive_rules.specs.declared.depth.Depth.TheVariants.{Empty, Files, Immediates, Infinity}
use Rattle.wire_reports.specs.{declared.depth_word.DepthWord.DepthWord, declared.depth_word.DepthWord.TheVariants.{Known, Unknown, Exclude}}

-- the words for depths
abbrev pub depth_words : List (List ℕ × DepthWord)
depth_words =
    (codes "empty", Known Empty)
    ∷ (codes "files", Known Files)
    ∷ (codes "immediates", Known Immediates)
    ∷ (codes "infinity", Known Infinity)
    ∷ (codes "unknown", Unknown)
    ∷ (codes "exclude", Exclude)
    ∷ []

-- what a word says of a depth
abbrev pub depth_word : List ℕ → Option DepthWord
depth_word = named depth_words

-- a word for a depth in front, and what stands behind it
abbrev pub depth_first : ItemValues → Option (DepthWord × ItemValues)
depth_first items = do
  (word, rest) ← word_first items
  depth ← depth_word word
  Some (depth, rest)

-- `? depth`: nothing, or a word for a depth
abbrev pub depth_at_end : ItemValues → Option (Option DepthWord)
depth_at_end none = Some None
depth_at_end items = option_map (λ first. Some first.0) (depth_first items)
