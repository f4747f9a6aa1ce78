-- The scanner over a list of bytes.
use Rattle.std.specs.Prelude.{◌≡◌, ℕ, ◌-◌, ◌≤◌, ◌<◌, List, [], ◌∷◌, take, length, slice_index}
use Rattle.items.specs.declared.scan.Lex.TheVariants as lexes
use Rattle.items.specs.{declared.scan.Defect.Defect, declared.scan.End.End, declared.scan.Scan.Scan, declared.scan.Step.Step, Scan.{at, step}}
use Rattle.items.specs.{Values.{Limits, limits}, declared.scan.TheConstants.MAX_DEPTH}
use Rattle.items.specs.declared.scan.End.TheVariants as ends
use Rattle.items.specs.declared.scan.Step.TheVariants as steps

-- the bytes end before the item does; or the item ends, and these come after it; or these begin
-- with a byte that is wrong
pub data Outcome : Type 0 where
  unfinished : Scan → Outcome
  whole : List ℕ → Outcome
  bad : Defect → List ℕ → Outcome

abbrev pub outcome_of : (Scan → Outcome) → Step → ℕ → List ℕ → Outcome
outcome_of go (steps.On s) b bs = go s
outcome_of go steps.Whole b bs = whole bs
outcome_of go (steps.Bad d) b bs = bad d (b ∷ bs)

unfoldable pub run : Limits → List ℕ → Scan → Outcome
run l [] s = unfinished s
run l (b ∷ bs) s = outcome_of (run l bs) (step l s b) b bs

abbrev pub start : Scan
start = at 0 lexes.Gap

-- the first n bytes are scanned, up to state s
pub record IsScanned (bytes : List ℕ) (n : ℕ) (s : Scan) : Type 0 where
  pub within : n ≤ length bytes
  pub shallow : s.depth ≤ MAX_DEPTH
  pub reached : run limits (take n bytes) start ≡ unfinished s

-- and what comes there
abbrev pub EndsSo : List ℕ → ℕ → Scan → End → Type 0
EndsSo bytes n s ends.More = n ≡ length bytes
EndsSo bytes n s ends.Whole =
    (n < length bytes) × (step limits s (slice_index bytes n) ≡ steps.Whole)
EndsSo bytes n s (ends.Bad d) =
    (n < length bytes) × (step limits s (slice_index bytes n) ≡ steps.Bad d)

-- k bytes of a string are passed over
pub record Skips (s t : Scan) (k room : ℕ) : Type 0 where
  pub left : ℕ
  pub is_tail : s ≡ at s.depth (lexes.Tail left)
  pub some : 0 < k
  pub most : k ≤ left
  pub fits : k ≤ room
  pub new : t ≡ at s.depth (lexes.Tail (left - k))
