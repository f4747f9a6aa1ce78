-- Documents: the header, then windows to the end.
use Rattle.std.specs.Prelude.{ℕ, zero, suc, List, [], ◌∷◌, ◌++◌, length, Option, Some, None, Result, Ok, Err, ◌==◌, if◌then◌else◌}
use Rattle.svndiff0.specs.{declared.fault.DiffFault.DiffFault, declared.fault.DiffFault.TheVariants.{BadHeader, Truncated}, Read.Read, Window.window_at}

-- `SVN` and a zero byte
abbrev pub header : List ℕ
header = 83 ∷ 86 ∷ 78 ∷ 0 ∷ []

-- the bytes behind these, or the first byte that differs
abbrev pub bytes_behind : List ℕ → List ℕ → Result (Option (List ℕ)) DiffFault
bytes_behind [] bytes = Ok (Some bytes)
bytes_behind (w ∷ ws) [] = Ok None
bytes_behind (w ∷ ws) (b ∷ bs) = if b == w then bytes_behind ws bs else Err BadHeader

unfoldable pub header_at : List ℕ → Result (Option (List ℕ)) DiffFault
header_at bytes = bytes_behind header bytes

-- What is known of a document of which the beginning has come: less than a header; or the text of
-- the whole windows,
-- and the bytes of the next one; or the rule that is broken, whatever comes.
pub data Reading : Type 0 where
  opening : List ℕ → Reading
  going : List ℕ → List ℕ → Reading
  broken : DiffFault → Reading

-- a window behind a text, and the windows behind it
abbrev pub with_windows : List ℕ → List ℕ → Read (List ℕ) → (List ℕ → List ℕ → Reading) → Reading
with_windows text bytes (Err f) others = broken f
with_windows text bytes (Ok None) others = going text bytes
with_windows text bytes (Ok (Some x)) others = others (text ++ x.0) x.1

-- the windows of at most so many bytes
abbrev pub windows_within : ℕ → List ℕ → List ℕ → List ℕ → Reading
windows_within zero base text bytes = going text bytes
windows_within (suc n) base text bytes =
    with_windows text bytes (window_at base (length text) bytes)
    (λ t rest. windows_within n base t rest)

-- the windows behind a text
unfoldable pub windows_of : List ℕ → List ℕ → List ℕ → Reading
windows_of base text bytes = windows_within (length bytes) base text bytes

-- the header, and the windows
abbrev pub after_header : List ℕ → List ℕ → Result (Option (List ℕ)) DiffFault → Reading
after_header base bytes (Err f) = broken f
after_header base bytes (Ok None) = opening bytes
after_header base bytes (Ok (Some rest)) = windows_of base [] rest

-- the document so far, over the base
abbrev pub read_document : List ℕ → List ℕ → Reading
read_document base document = after_header base document (header_at document)

-- the text, where the document ends here
abbrev pub outcome : Reading → Result (List ℕ) DiffFault
outcome (opening bytes) = Err Truncated
outcome (going text []) = Ok text
outcome (going text (b ∷ bs)) = Err Truncated
outcome (broken f) = Err f

-- the text of a document over a base, or the rule that it breaks first
abbrev pub document_text : List ℕ → List ℕ → Result (List ℕ) DiffFault
document_text base document = outcome (read_document base document)
