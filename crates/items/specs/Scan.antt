-- The scanner's step.
use Rattle.std.specs.{Prelude.{ℕ, ◌≤◌, ◌+◌, ◌-◌, ◌*◌, ◌==◌, nat_lt, nat_le, if◌then◌else◌}, Char.{is_ascii_digit, is_ascii_alphabetic}}
use Rattle.items.specs.{declared.scan.Lex.Lex, declared.scan.Scan.Scan, declared.scan.Step.Step, Values.Limits, declared.scan.TheConstants.MAX_DEPTH}
use Rattle.items.specs.declared.scan.Lex.TheVariants as lexes
use Rattle.items.specs.declared.scan.Defect.TheVariants as defects
use Rattle.items.specs.declared.scan.Step.TheVariants as steps
pub use Rattle.items.specs.Word.{is_space, is_word_byte}

abbrev pub at : ℕ → Lex → Scan
at depth lex = record { depth = depth; lex = lex }

abbrev pub on : ℕ → Lex → Step
on depth lex = steps.On (at depth lex)

-- the byte behind a body
unfoldable pub behind_body : ℕ → ℕ → Step
behind_body depth b =
    if is_space b then (if depth == 0 then steps.Whole else on depth lexes.Gap)
    else steps.Bad defects.Malformed

-- the first byte of an item, or of what ends a list
unfoldable pub gap_step : Limits → ℕ → ℕ → Step
gap_step l depth b =
    if is_space b then on depth lexes.Gap
    else if b == 40 then (if nat_lt depth l.depth then on (depth + 1) lexes.Open
    else steps.Bad defects.TooDeep)
    else if b == 41 then (if depth == 0 then steps.Bad defects.Malformed else on (depth - 1)
    (lexes.Tail 0))
    else if is_ascii_digit b then on depth (lexes.Number (b - 48))
    else if is_ascii_alphabetic b then on depth lexes.Word
    else steps.Bad defects.Malformed

unfoldable pub number_step : Limits → ℕ → ℕ → ℕ → Step
number_step l depth n b =
    if is_ascii_digit b then (if nat_le (10 * n + (b - 48)) l.number
    then on depth (lexes.Number (10 * n + (b - 48))) else steps.Bad defects.NumberTooLarge)
    else if b == 58 then (if nat_le n l.string then on depth (lexes.Tail n)
    else steps.Bad defects.StringTooLong)
    else behind_body depth b

unfoldable pub step_in : Limits → ℕ → Lex → ℕ → Step
step_in l depth lexes.Gap b = gap_step l depth b
step_in l depth lexes.Open b =
    if is_space b then on depth lexes.Gap else steps.Bad defects.Malformed
step_in l depth lexes.Word b = if is_word_byte b then on depth lexes.Word else behind_body depth b
step_in l depth (lexes.Number n) b = number_step l depth n b
step_in l depth (lexes.Tail n) b =
    if n == 0 then behind_body depth b else on depth (lexes.Tail (n - 1))

abbrev pub step : Limits → Scan → ℕ → Step
step l s b = step_in l s.depth s.lex b

-- no more lists are open than may be
abbrev pub StaysShallow : Step → Type 0
StaysShallow (steps.On s) = s.depth ≤ MAX_DEPTH
StaysShallow steps.Whole = Unit {0}
StaysShallow (steps.Bad d) = Unit {0}
