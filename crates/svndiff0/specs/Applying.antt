-- What an applier holds, and what feeding does.
use Rattle.std.specs.Prelude.{◌≡◌, ◌≢◌, ℕ, List, ◌++◌, length, Option, Some, None, Result, Ok, Err}
use Rattle.svndiff0.specs.{declared.fault.DiffFault.DiffFault, declared.fault.DiffFault.TheVariants.NoMemory, Window.window_at}
use Rattle.svndiff0.specs.Document.{Reading, opening, going, broken, read_document, windows_of}

-- the base, and what is known of the document
pub record Applying : Type 0 where
  pub base : List ℕ
  pub reading : Reading

-- it was fed this, however it was cut into pieces
abbrev pub HasRead : Applying → List ℕ → Type 0
HasRead a document = a.reading ≡ read_document a.base document

-- more bytes have come
abbrev pub with_more : Reading → List ℕ → Reading
with_more (opening bytes) piece = opening (bytes ++ piece)
with_more (going text bytes) piece = going text (bytes ++ piece)
with_more (broken f) piece = broken f

-- the bytes that are there are read, as far as they go
abbrev pub go_on : List ℕ → Reading → Reading
go_on base (opening bytes) = read_document base bytes
go_on base (going text bytes) = windows_of base text bytes
go_on base (broken f) = broken f

abbrev pub fed : Applying → List ℕ → Applying
fed a piece = record { base = a.base; reading = go_on a.base (with_more a.reading piece) }

-- no rule is broken so far
abbrev pub IsSound : Reading → Type 0
IsSound (opening bytes) = Unit {0}
IsSound (going text bytes) = Unit {0}
IsSound (broken f) = ⊥

-- What a feed answers: want of memory changes nothing, and any other fault is the rule that is
-- broken now.
abbrev pub FeedsApplier : Applying → List ℕ → Result Unit DiffFault → Applying → Type 0
FeedsApplier old piece (Ok x) new = (new ≡ fed old piece) × IsSound new.reading
FeedsApplier old piece (Err NoMemory) new = new ≡ old
FeedsApplier old piece (Err f) new = (new ≡ fed old piece) × (new.reading ≡ broken f)

-- What applying the window at the front of the bytes gives: nothing yet; or its target view behind
-- the text, and the
-- bytes behind it; or the rule that it breaks, unless memory ran out.
abbrev pub AppliesWindow : {X : Type 0} → (X → List ℕ) → List ℕ → List ℕ → List ℕ
    → Result (Option X) DiffFault → List ℕ → Type 0
AppliesWindow view base text bytes (Err f) new = f ≢ NoMemory → window_at base (length text) bytes ≡ Err f
AppliesWindow view base text bytes (Ok None) new =
    (window_at base (length text) bytes ≡ Ok None) × (new ≡ text)
AppliesWindow view base text bytes (Ok (Some x)) new =
    (target : List ℕ) × (window_at base (length text) bytes ≡ Ok (Some (target, view x)))
    × (new ≡ text ++ target)

-- the same of all windows that are whole
abbrev pub AppliesAll : {X : Type 0} → (X → List ℕ) → List ℕ → List ℕ → List ℕ → Result X DiffFault
    → List ℕ → Type 0
AppliesAll view base text bytes (Err f) new = f ≢ NoMemory → windows_of base text bytes ≡ broken f
AppliesAll view base text bytes (Ok x) new =
    (windows_of base text bytes ≡ going new (view x))
    × ((front : List ℕ) × (bytes ≡ front ++ view x))
