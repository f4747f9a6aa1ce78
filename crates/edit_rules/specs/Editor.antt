-- The editor of a commit: an edit, and what each command makes of it.
use Rattle.std.specs.Prelude.{◌≡◌, ℕ, Bool, true, false, is_some, List, [], Option, Some, None, Result, Ok, Err, if◌then◌else◌}
use Rattle.svnpath.specs.{Paths.PathValue, Texts.joined}
use Rattle.refusals.specs.{declared.Refusal.Refusal, declared.fault.NotDoneAt.NotDoneAt}
use Rattle.refusals.specs.declared.Refusal.TheVariants as refusals
use Rattle.repo_api.specs.{States.{IsBeginning, IsBegun, IsEdited, RepoState, TxnState}, declared.change.Source.Source, declared.entry.NodeKind.NodeKind}
use Rattle.repo_api.specs.declared.edit.EditOp.{EditOp}
use Rattle.repo_api.specs.declared.entry.NodeKind.TheVariants as kinds
use Rattle.repo_api.specs.declared.edit.EditOp.TheVariants as edits
use Rattle.svndiff0.specs.{Applying.{Applying, fed}, Document.{read_document, outcome}}
use Rattle.wire_edits.specs.{declared.editing.EditorCommand.EditorCommand, declared.editing.EditorCommand.TheVariants.{TargetRevision, OpenRoot, DeleteEntry}}
use Rattle.wire_edits.specs.declared.editing.EditorCommand.TheVariants.{AddDirectory, AddFile, OpenDirectory, OpenFile, AbsentDirectory, AbsentFile}
use Rattle.wire_edits.specs.declared.editing.EditorCommand.TheVariants.{ChangeDirectoryProperty, ChangeFileProperty, ApplyTextDelta, TextDeltaChunk}
use Rattle.wire_edits.specs.declared.editing.EditorCommand.TheVariants.{TextDeltaEnd, CloseDirectory, CloseFile, CloseEdit, AbortEdit}
use Rattle.wire_edits.specs.{declared.editing.AddedEntry.AddedEntry, declared.editing.PropertyChange.PropertyChange}
use Rattle.edit_rules.specs.Tokens.{Tokens, with_token, without_token, with_change, opened_under, path_of, copies_under, closed_beneath, others_closed_beneath}
use Rattle.edit_rules.specs.{Tokens.has_unfinished, Edits.{EditState, standing, file_text}, Refused.refused_at, Refusing.{source_of, edit_refusal}}
use Rattle.edit_rules.specs.{declared.opened.OpenedDirectory.OpenedDirectory, declared.opened.Opened.Opened}
use Rattle.edit_rules.specs.{declared.opened.Opened.TheVariants.{Directory, File}, declared.opened.DeltaState.TheVariants.{NotBegun, Reading, Ended}}
use Rattle.refusals.specs.declared.fault.NotDoneAt.TheVariants as faults

-- an edit that is refused: its transaction is dropped
abbrev pub given_up : EditState → EditState
given_up e = record e { txn = None; tokens = []; refused = true }

-- ---- what a command does that is not refused

abbrev pub opened_directory : PathValue → Option ℕ → Bool → OpenedDirectory
opened_directory p revision in_copy = record { path = p; revision = revision; in_copy = in_copy }

-- a transaction begins at the youngest revision, whichever the client names
pub record OpensRoot (c : RepoState) (old : EditState) (revision : Option ℕ) (token : List ℕ)
    (new : EditState) : Type 0 where
  pub txn : TxnState
  pub begun : IsBegun c txn
  pub is : new ≡ record old {
    txn = Some txn;
    tokens = with_token old.tokens token
        (Directory (opened_directory old.path revision false));
  }

-- the transaction is edited, and these are open then
pub record Edits (c : RepoState) (old : EditState) (op : EditOp) (tokens : Tokens)
    (new : EditState) : Type 0 where
  pub before : TxnState
  pub had : old.txn ≡ Some before
  pub after : TxnState
  pub edited : IsEdited c.revisions before op after
  pub is : new ≡ record old { txn = Some after; tokens = tokens }

-- of the path that a command names
abbrev pub Named : EditState → List ℕ → (PathValue → Type 0) → Type 0
Named e text P = (p : PathValue) × (joined e.path text ≡ Ok p) × P p

-- the entry is opened under its token
abbrev pub Opens : EditState → List ℕ → Opened → EditState → Type 0
Opens old token opened new = new ≡ record old { tokens = with_token old.tokens token opened }

-- a copy, over what stands there if something does
abbrev pub copy_edit : NodeKind → PathValue → Source → EditOp
copy_edit kinds.Absent p source = edits.Copy source p
copy_edit kinds.File p source = edits.Replace source p
copy_edit kinds.Directory p source = edits.Replace source p

-- a new directory or file, or a copy
abbrev pub added_edit : Bool → NodeKind → PathValue → Option Source → EditOp
added_edit is_file kind p None = if is_file then edits.AddFile p else edits.AddDirectory p
added_edit is_file kind p (Some source) = copy_edit kind p source

abbrev pub added_opened : Bool → PathValue → Option Source → Opened
added_opened is_file p source =
    if is_file then File p NotBegun else Directory (opened_directory p None (is_some source))

-- what is open once this is: where a copy takes its place, what was open there is closed
abbrev pub tokens_added : Tokens → List ℕ → Opened → Option Source → Tokens
tokens_added tokens token opened None = with_token tokens token opened
tokens_added tokens token opened (Some source) =
    others_closed_beneath (with_token tokens token opened) (path_of opened) token

-- an entry is added at this path, new or a copy of this source, and opened under its token
abbrev pub AddsAt : RepoState → EditState → Bool → AddedEntry → PathValue → Option Source
    → EditState → Type 0
AddsAt c old is_file entry p source new =
    Edits c old (added_edit is_file (standing old.txn p) p source)
    (tokens_added old.tokens entry.token (added_opened is_file p source) source) new

-- the entry is added
pub record Adds (c : RepoState) (old : EditState) (is_file : Bool) (entry : AddedEntry)
    (new : EditState) : Type 0 where
  pub path : PathValue
  pub is_path : joined old.path entry.path ≡ Ok path
  pub source : Option Source
  pub is_source : source_of old.name entry.source ≡ Ok source
  pub edits : AddsAt c old is_file entry path source new

abbrev pub property_edit : PathValue → List ℕ → Option (List ℕ) → EditOp
property_edit p name None = edits.RemoveProperty p name
property_edit p name (Some value) = edits.SetProperty p name value

-- of what is open under the token
abbrev pub Under : EditState → List ℕ → (Opened → Type 0) → Type 0
Under e token P = (opened : Opened) × (opened_under e.tokens token ≡ Some opened) × P opened

abbrev pub ChangesProperty : RepoState → EditState → PropertyChange → EditState → Type 0
ChangesProperty c old change new =
    Under old change.token
    (λ o. Edits c old (property_edit (path_of o) change.name change.value) old.tokens new)

-- a document that nothing has come of, over a base
abbrev pub unread : List ℕ → Applying
unread base = record { base = base; reading = read_document base [] }

-- what is read for a text: the text, under the premise that what was read is known
abbrev pub IsReadFor : Type 0 → List ℕ → List ℕ → Type 0
IsReadFor known text base = known → base ≡ text

-- the delta is over the file's text as it stands, as it was read
abbrev pub BeginsDelta : Type 0 → EditState → List ℕ → EditState → Type 0
BeginsDelta known old token new = Under old token (λ o. (base : List ℕ) × IsReadFor known (file_text old (path_of o)) base
    × (new ≡ record old { tokens = with_change old.tokens token (File (path_of o) (Reading (unread base))) }))

-- of a file whose delta is being read
abbrev pub ReadsUnder : EditState → List ℕ → (PathValue → Applying → Type 0) → Type 0
ReadsUnder e token P =
    (p : PathValue) × (a : Applying) × (opened_under e.tokens token ≡ Some (File p (Reading a)))
    × P p a

abbrev pub FeedsDelta : EditState → List ℕ → List ℕ → EditState → Type 0
FeedsDelta old token bytes new =
    ReadsUnder old token
    (λ p a. new ≡ record old {
      tokens = with_change old.tokens token
          (File p (Reading (fed a bytes)));
    })

-- the document's text is the file's
abbrev pub EndsDelta : RepoState → EditState → List ℕ → EditState → Type 0
EndsDelta c old token new =
    ReadsUnder old token (λ p a. (text : List ℕ) × (outcome a.reading ≡ Ok text)
    × Edits c old (edits.SetText p text) (with_change old.tokens token (File p Ended)) new)

abbrev pub Closes : EditState → List ℕ → EditState → Type 0
Closes old token new = new ≡ record old { tokens = without_token old.tokens token }

abbrev pub Applies : Type 0 → RepoState → EditState → EditorCommand → EditState → Type 0
Applies known c old (TargetRevision revision) new = new ≡ old
Applies known c old (OpenRoot revision token) new = OpensRoot c old revision token new
Applies known c old (DeleteEntry entry) new =
    Named old entry.path (λ p. Edits c old (edits.Delete p) (closed_beneath old.tokens p) new)
Applies known c old (AddDirectory entry) new = Adds c old false entry new
Applies known c old (AddFile entry) new = Adds c old true entry new
Applies known c old (OpenDirectory entry) new =
    Named old entry.path
    (λ p. Opens old entry.token
    (Directory (opened_directory p entry.revision (copies_under old.tokens entry.parent)))
    new)
Applies known c old (OpenFile entry) new =
    Named old entry.path (λ p. Opens old entry.token (File p NotBegun) new)
Applies known c old (AbsentDirectory entry) new = new ≡ old
Applies known c old (AbsentFile entry) new = new ≡ old
Applies known c old (ChangeDirectoryProperty change) new = ChangesProperty c old change new
Applies known c old (ChangeFileProperty change) new = ChangesProperty c old change new
Applies known c old (ApplyTextDelta token checksum) new = BeginsDelta known old token new
Applies known c old (TextDeltaChunk token bytes) new = FeedsDelta old token bytes new
Applies known c old (TextDeltaEnd token) new = EndsDelta c old token new
Applies known c old (CloseDirectory token) new = Closes old token new
Applies known c old (CloseFile token checksum) new = Closes old token new
Applies known c old CloseEdit new = ⊥
Applies known c old AbortEdit new = ⊥

-- under a premise that says more, a command does no other thing
pub applies_weaker : {stronger weaker : Type 0} → (weaker → stronger) → (c : RepoState) (old : EditState) (command : EditorCommand) (new : EditState)
    → Applies stronger c old command new → Applies weaker c old command new
applies_weaker f c old (TargetRevision revision) new x = x
applies_weaker f c old (OpenRoot revision token) new x = x
applies_weaker f c old (DeleteEntry entry) new x = x
applies_weaker f c old (AddDirectory entry) new x = x
applies_weaker f c old (AddFile entry) new x = x
applies_weaker f c old (OpenDirectory entry) new x = x
applies_weaker f c old (OpenFile entry) new x = x
applies_weaker f c old (AbsentDirectory entry) new x = x
applies_weaker f c old (AbsentFile entry) new x = x
applies_weaker f c old (ChangeDirectoryProperty change) new x = x
applies_weaker f c old (ChangeFileProperty change) new x = x
applies_weaker f c old (ApplyTextDelta token checksum) new (o, under, (base, read, is)) = (o, under, (base, (λ known. read (f known)), is))
applies_weaker f c old (TextDeltaChunk token bytes) new x = x
applies_weaker f c old (TextDeltaEnd token) new x = x
applies_weaker f c old (CloseDirectory token) new x = x
applies_weaker f c old (CloseFile token checksum) new x = x
applies_weaker f c old CloseEdit new x = x
applies_weaker f c old AbortEdit new x = x

-- why nothing was made of a command: it is refused, at a path if it is of one, and the edit is given
-- up, or memory was, and nothing has changed
abbrev pub NotApplied : RepoState → EditState → EditorCommand → NotDoneAt → EditState → Type 0
NotApplied c old command (faults.Refused r path) new =
    (edit_refusal c old command ≡ Some r) × (path ≡ refused_at old command r)
    × (new ≡ given_up old)
NotApplied c old command faults.NoMemory new = new ≡ old

-- ---- the end of an edit

-- a text delta that has not ended is refused
abbrev pub finished_txn : Tokens → Option TxnState → Result TxnState Refusal
finished_txn tokens None = Err refusals.MalformedData
finished_txn tokens (Some t) = if has_unfinished tokens then Err refusals.MalformedData else Ok t

-- the transaction that is to be committed, or why there is none
abbrev pub finished : EditState → Result TxnState Refusal
finished e = if e.refused then Err refusals.EditAborted else finished_txn e.tokens e.txn

-- ---- the revisions that an edit has seen

abbrev pub RestsIn : Option TxnState → RepoState → Type 0
RestsIn None c = Unit {0}
RestsIn (Some t) c = IsBeginning t.shown c.revisions

-- the edit's transaction, if there is one, was last shown revisions that begin the repository's
abbrev pub RestsOn : EditState → RepoState → Type 0
RestsOn e c = RestsIn e.txn c
