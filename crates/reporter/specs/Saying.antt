-- What the commands of a drive say, by their tokens: depth first, each of what was opened last.
use Rattle.std.specs.Prelude.{◌≡◌, ℕ, Bool, true, false, not, ◌&&◌, ◌||◌, is_some, List, [], ◌∷◌, ◌++◌, Option, Some, None, Result, Ok, Err, if◌then◌else◌}
use Rattle.std.specs.List.{list_any}
use Rattle.hex.specs.Hex.{encode_lower}
use Rattle.md5.specs.Md5.{md5}
use Rattle.svnpath.specs.{Paths.PathValue, Texts.components_of}
use Rattle.svndiff0.specs.{Document.{header, document_text}, declared.fault.DiffFault.DiffFault}
use Rattle.wire_forms.specs.Forms.{is_name}
use Rattle.wire_edits.specs.{declared.editing.AddedEntry.AddedEntry, declared.editing.EditorCommand.EditorCommand}
use Rattle.wire_edits.specs.declared.editing.EditorCommand.TheVariants.{TargetRevision, OpenRoot, DeleteEntry, AddDirectory, AddFile, OpenDirectory, OpenFile}
use Rattle.wire_edits.specs.declared.editing.EditorCommand.TheVariants.{AbsentDirectory, AbsentFile, ChangeDirectoryProperty, ChangeFileProperty}
use Rattle.wire_edits.specs.declared.editing.EditorCommand.TheVariants.{ApplyTextDelta, TextDeltaChunk, TextDeltaEnd, CloseDirectory, CloseFile, CloseEdit}
use Rattle.wire_edits.specs.{declared.editing.EditorCommand.TheVariants.AbortEdit, declared.editing.OpenedEntry.OpenedEntry}
use Rattle.wire_edits.specs.declared.editing.PropertyChange.{PropertyChange}
use Rattle.drive_rules.specs.{Places.is_in_directory, Steps.{EntryKind, Step}, Steps.EntryKind.{DirectoryKind, FileKind}}
use Rattle.drive_rules.specs.Steps.Step.{AddAt, DeleteAt, OpenAt, PropertyAt, TextAt}
use Rattle.reporter.specs.{declared.ask.Purpose.Purpose, declared.ask.Purpose.TheVariants.{Update, Switch, Status, Diff, Summary}}

-- what was sent of a file's text: nothing, some bytes of a delta, or a whole delta, with its text
pub data TextState : Type 0 where
  Unchanged : TextState
  Receiving : List ℕ → TextState
  Received : List ℕ → TextState

-- what is open under a token: its path and kind, the text that the client has of it, and what was
-- sent of its text
pub record OpenEntry : Type 0 where
  pub token : List ℕ
  pub path : PathValue
  pub kind : EntryKind
  pub base : List ℕ
  pub state : TextState

-- a directory's kind
abbrev pub is_directory_kind : EntryKind → Bool
is_directory_kind DirectoryKind = true
is_directory_kind FileKind = false

-- both are directories, or both files
abbrev pub same_kind : EntryKind → EntryKind → Bool
same_kind DirectoryKind kind = is_directory_kind kind
same_kind FileKind kind = not (is_directory_kind kind)

-- something is open under the token
abbrev pub is_open_token : List ℕ → List OpenEntry → Bool
is_open_token token hs = list_any (λ h. is_name h.token token) hs

-- what a command says, and what is open after it, where it has its place
abbrev pub Said : Type 0
Said = Option (List Step × List OpenEntry)

-- these steps are said, and this is open, where the test holds
abbrev pub when : Bool → List Step → List OpenEntry → Said
when holds steps hs = if holds then Some (steps, hs) else None

-- ---- places

-- the path is in the directory that was opened last, and this is the directory's token
abbrev pub is_in_place : PathValue → List OpenEntry → PathValue → List ℕ → Bool
is_in_place top [] p parent = false
is_in_place top (h ∷ hs) p parent =
    is_name h.token parent && is_directory_kind h.kind && is_in_directory top h.path p

-- an entry is opened or added, under a token that is not open
abbrev pub enters_entry : PathValue → List OpenEntry → PathValue → List ℕ → List ℕ → EntryKind
    → List ℕ → Step → Said
enters_entry top hs p parent token kind base step =
    when (is_in_place top hs p parent && not (is_open_token token hs)) (step ∷ [])
    (record { token = token; path = p; kind = kind; base = base; state = Unchanged } ∷ hs)

-- an entry is opened, over the text that the client has of it
abbrev pub opens_entry : PathValue → List OpenEntry → OpenedEntry → EntryKind → List ℕ → Said
opens_entry top hs e kind base =
    enters_entry top hs (components_of e.path) e.parent e.token kind base
    (OpenAt (components_of e.path) kind)

-- an entry is added; a drive names no source of a copy
abbrev pub adds_entry : PathValue → List OpenEntry → AddedEntry → EntryKind → Said
adds_entry top hs e kind =
    if is_some e.source
    then None
    else enters_entry top hs (components_of e.path) e.parent e.token kind []
    (AddAt (components_of e.path) kind)

-- ---- what was opened last

-- what is said of what was opened last, if it is of this token and kind
abbrev pub of_newest : List OpenEntry → List ℕ → EntryKind
    → (OpenEntry → List OpenEntry → Said) → Said
of_newest [] token kind f = None
of_newest (h ∷ hs) token kind f =
    if is_name h.token token && same_kind kind h.kind then f h hs else None

-- a property of it has a value now, or is taken out
abbrev pub property_said : List OpenEntry → PropertyChange → EntryKind → Said
property_said hs p kind =
    of_newest hs p.token kind (λ h rest. Some (PropertyAt h.path p.name p.value ∷ [], h ∷ rest))

-- a status and a summary send no texts
abbrev pub sends_texts : Purpose → Bool
sends_texts Update = true
sends_texts Switch = true
sends_texts Status = false
sends_texts Diff = true
sends_texts Summary = false

-- the checksum is that of the text
abbrev pub is_checksum : List ℕ → List ℕ → Bool
is_checksum text digits = is_name digits (encode_lower (md5 text))

-- the checksum of a text that the client has need not be sent; without texts none is
abbrev pub is_base_checksum : Purpose → List ℕ → Option (List ℕ) → Bool
is_base_checksum purpose text None = true
is_base_checksum purpose text (Some digits) = sends_texts purpose && is_checksum text digits

-- a text that is sent comes with its checksum; without texts none comes
abbrev pub is_sent_checksum : Purpose → List ℕ → Option (List ℕ) → Bool
is_sent_checksum purpose text None = not (sends_texts purpose)
is_sent_checksum purpose text (Some digits) = sends_texts purpose && is_checksum text digits

-- without texts the header of a delta comes alone
abbrev pub is_sent_delta : Purpose → List ℕ → Bool
is_sent_delta purpose document = sends_texts purpose || is_name document header

-- a delta begins, once
abbrev pub delta_begun : TextState → OpenEntry → List OpenEntry → Said
delta_begun Unchanged h hs = Some ([], record h { state = Receiving [] } ∷ hs)
delta_begun _ h hs = None

-- the next bytes of a delta
abbrev pub delta_more : List ℕ → TextState → OpenEntry → List OpenEntry → Said
delta_more bytes (Receiving before) h hs =
    Some ([], record h { state = Receiving (before ++ bytes) } ∷ hs)
delta_more bytes _ h hs = None

-- the text that a delta brings
abbrev pub text_received : Result (List ℕ) DiffFault → OpenEntry → List OpenEntry → Said
text_received (Ok text) h hs =
    Some (TextAt h.path text ∷ [], record h { state = Received text } ∷ hs)
text_received (Err fault) h hs = None

-- a delta ends: it is read over the text that the client has
abbrev pub delta_ended : Purpose → TextState → OpenEntry → List OpenEntry → Said
delta_ended purpose (Receiving document) h hs =
    if is_sent_delta purpose document then text_received (document_text h.base document) h hs else None
delta_ended purpose _ h hs = None

-- a file is closed: its checksum is that of the text that was sent, or that the client has
abbrev pub file_closed : Purpose → Option (List ℕ) → TextState → OpenEntry → List OpenEntry → Said
file_closed purpose checksum Unchanged h hs = when (is_base_checksum purpose h.base checksum) [] hs
file_closed purpose checksum (Receiving document) h hs = None
file_closed purpose checksum (Received text) h hs = when (is_sent_checksum purpose text checksum) [] hs

-- ---- commands

-- What a command of a drive says, and what is open after it, where it has its place. The top is the
-- target, and the base the text that the client has of a file.
abbrev pub steps_said : Purpose → PathValue → (PathValue → List ℕ) → List OpenEntry
    → EditorCommand → Said
steps_said purpose top base hs (TargetRevision n) = None
steps_said purpose top base hs (OpenRoot revision token) = None
steps_said purpose top base hs (DeleteEntry e) =
    when (is_in_place top hs (components_of e.path) e.parent)
    (DeleteAt (components_of e.path) ∷ []) hs
steps_said purpose top base hs (AddDirectory e) = adds_entry top hs e DirectoryKind
steps_said purpose top base hs (AddFile e) = adds_entry top hs e FileKind
steps_said purpose top base hs (OpenDirectory e) = opens_entry top hs e DirectoryKind []
steps_said purpose top base hs (OpenFile e) =
    opens_entry top hs e FileKind (base (components_of e.path))
steps_said purpose top base hs (AbsentDirectory e) = None
steps_said purpose top base hs (AbsentFile e) = None
steps_said purpose top base hs (ChangeDirectoryProperty p) = property_said hs p DirectoryKind
steps_said purpose top base hs (ChangeFileProperty p) = property_said hs p FileKind
steps_said purpose top base hs (ApplyTextDelta token checksum) =
    of_newest hs token FileKind
    (λ h rest.
    if is_base_checksum purpose h.base checksum then delta_begun h.state h rest else None)
steps_said purpose top base hs (TextDeltaChunk token bytes) =
    of_newest hs token FileKind (λ h rest. delta_more bytes h.state h rest)
steps_said purpose top base hs (TextDeltaEnd token) =
    of_newest hs token FileKind (λ h rest. delta_ended purpose h.state h rest)
steps_said purpose top base hs (CloseDirectory token) =
    of_newest hs token DirectoryKind (λ h rest. Some ([], rest))
steps_said purpose top base hs (CloseFile token checksum) =
    of_newest hs token FileKind (λ h rest. file_closed purpose checksum h.state h rest)
steps_said purpose top base hs CloseEdit = None
steps_said purpose top base hs AbortEdit = None

-- from what is open, the commands say these steps, and then this is open
abbrev pub Says : Purpose → PathValue → (PathValue → List ℕ) → List OpenEntry
    → List EditorCommand → List Step → List OpenEntry → Type 0
Says purpose top base hs [] steps end = (steps ≡ []) × (end ≡ hs)
Says purpose top base hs (c ∷ cs) steps end =
    (now : List Step) × (mid : List OpenEntry) × (later : List Step)
    × (steps_said purpose top base hs c ≡ Some (now, mid))
    × Says purpose top base mid cs later end × (steps ≡ now ++ later)
