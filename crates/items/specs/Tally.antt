-- How many items begin in the bytes that are scanned.
use Rattle.std.specs.Prelude.{◌≡◌, ◌≤◌, ℕ, suc, ◌==◌, Bool, true, false, if◌then◌else◌, List, [], ◌∷◌, take}
use Rattle.items.specs.{declared.scan.Lex.Lex, declared.scan.Scan.Scan, declared.scan.Step.Step, Scan.step, Run.start, Values.{Limits, limits}}
use Rattle.items.specs.declared.scan.Lex.TheVariants as lexes
use Rattle.items.specs.declared.scan.Step.TheVariants as steps

-- the byte before was the first of an item
abbrev pub is_first : Lex → Bool
is_first lexes.Gap = false
is_first lexes.Open = true
is_first lexes.Word = true
is_first (lexes.Number n) = true
is_first (lexes.Tail n) = false

-- an item begins with the byte between these
abbrev pub enters : Lex → Lex → Bool
enters lexes.Gap to = is_first to
enters lexes.Open to = false
enters lexes.Word to = false
enters (lexes.Number n) to = false
enters (lexes.Tail n) to = false

-- how many begin with it
abbrev pub begun : Lex → Lex → ℕ
begun from to = if enters from to then 1 else 0

abbrev pub tally_of : (Scan → ℕ) → Lex → Step → ℕ
tally_of go from (steps.On s) = if enters from s.lex then suc (go s) else go s
tally_of go from steps.Whole = 0
tally_of go from (steps.Bad d) = 0

-- how many begin in the bytes, up to the end of the first that is whole
unfoldable pub tally : Limits → List ℕ → Scan → ℕ
tally l [] s = 0
tally l (b ∷ bs) s = tally_of (tally l bs) s.lex (step l s b)

-- in the first n bytes so many items begin
abbrev pub IsCounted : List ℕ → ℕ → ℕ → Type 0
IsCounted bytes n items = (items ≤ n) × (tally limits (take n bytes) start ≡ items)

-- how many are still to begin at least, with so many lists open: one where no item has begun
abbrev pub lacking_in : ℕ → Lex → ℕ
lacking_in depth lexes.Gap = if depth == 0 then 1 else 0
lacking_in depth lexes.Open = if depth == 0 then 1 else 0
lacking_in depth lexes.Word = 0
lacking_in depth (lexes.Number n) = 0
lacking_in depth (lexes.Tail n) = 0

abbrev pub lacking : Scan → ℕ
lacking s = lacking_in s.depth s.lex
