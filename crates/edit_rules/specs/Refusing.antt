-- Which commands of an edit are refused.
use Rattle.std.specs.Prelude.{ℕ, ◌-◌, Bool, true, false, not, ◌&&◌, ◌||◌, ◌==◌, nat_le, is_some, List, [], length, Option, Some, None, Result, Ok, Err}
use Rattle.std.specs.{Prelude.{if◌then◌else◌, codes}, List.starts_with, Str.str_eq_ignore_ascii_case}
use Rattle.md5.specs.Md5.{md5}
use Rattle.hex.specs.Hex.{encode_lower}
use Rattle.svnpath.specs.{declared.component.TheConstants.DEPTH_LIMIT, Paths.PathValue, Texts.{joined, parsed, starts_with_slash}, Urls.path_of_text}
use Rattle.svnpath.specs.declared.fault.PathFault.{PathFault}
use Rattle.repo_api.specs.{Judging.{is_older, is_property_name}, Kinds.{has_deeper_at, is_present, kind_at}, States.{RepoState, youngest}}
use Rattle.repo_api.specs.{declared.change.Source.Source, declared.entry.NodeKind.NodeKind}
use Rattle.small_rules.specs.Guarding.{guarding_change}
use Rattle.refusals.specs.{Refusing.path_refusal, declared.Refusal.Refusal}
use Rattle.refusals.specs.declared.Refusal.TheVariants as refusals
use Rattle.repo_api.specs.declared.entry.NodeKind.TheVariants as kinds
use Rattle.svndiff0.specs.{Applying.fed, Document.{Reading, opening, going, broken, outcome}, declared.fault.DiffFault.DiffFault}
use Rattle.wire_edits.specs.{declared.editing.EditorCommand.EditorCommand, declared.editing.EditorCommand.TheVariants.{TargetRevision, OpenRoot, DeleteEntry}}
use Rattle.wire_edits.specs.declared.editing.EditorCommand.TheVariants.{AddDirectory, AddFile, OpenDirectory, OpenFile, AbsentDirectory, AbsentFile}
use Rattle.wire_edits.specs.declared.editing.EditorCommand.TheVariants.{ChangeDirectoryProperty, ChangeFileProperty, ApplyTextDelta, TextDeltaChunk}
use Rattle.wire_edits.specs.declared.editing.EditorCommand.TheVariants.{TextDeltaEnd, CloseDirectory, CloseFile, CloseEdit, AbortEdit}
use Rattle.wire_edits.specs.{declared.editing.AddedEntry.AddedEntry, declared.editing.OpenedEntry.OpenedEntry, declared.editing.DeletedEntry.DeletedEntry}
use Rattle.wire_edits.specs.declared.editing.AbsentEntry.{AbsentEntry}
use Rattle.edit_rules.specs.Tokens.{directory_of, copies_under, is_within, is_placed, may_open, opened_under}
use Rattle.edit_rules.specs.{Edits.{EditState, standing, created, base_in, file_text, open_in}, declared.opened.Opened.Opened}
use Rattle.edit_rules.specs.{declared.opened.Opened.TheVariants.{Directory, File}, declared.opened.DeltaState.DeltaState}
use Rattle.edit_rules.specs.declared.opened.DeltaState.TheVariants as deltas

-- the first refusal, if there is one
abbrev pub first : Option Refusal → Option Refusal → Option Refusal
first None later = later
first (Some r) later = Some r

-- what does not hold is refused so
abbrev pub unless : Bool → Refusal → Option Refusal
unless true r = None
unless false r = Some r

-- ---- by what stands there

abbrev pub directory_refusal : NodeKind → Option Refusal
directory_refusal kinds.Directory = None
directory_refusal kinds.File = Some refusals.NotADirectory
directory_refusal kinds.Absent = Some refusals.NotFound

abbrev pub add_refusal : NodeKind → Option Refusal
add_refusal kinds.Absent = None
add_refusal kinds.File = Some refusals.AlreadyExists
add_refusal kinds.Directory = Some refusals.AlreadyExists

-- the revision that the client has is below the one in which the entry was last changed
abbrev pub age_refusal : Option ℕ → Option ℕ → Option Refusal
age_refusal revision made = unless (not (is_older revision made)) refusals.OutOfDate

abbrev pub created_for_guard : EditState → PathValue → Option ℕ
created_for_guard e p = guarding_change e.is_of_today p (base_in e.txn) (created e.txn p)

abbrev pub file_refusal : NodeKind → Option Refusal → Option Refusal
file_refusal kinds.Absent age = Some refusals.NotFound
file_refusal kinds.File age = age
file_refusal kinds.Directory age = first age (Some refusals.NotAFile)

abbrev pub delete_refusal : NodeKind → Option Refusal → Option Refusal
delete_refusal kinds.Absent age = Some refusals.OutOfDate
delete_refusal kinds.File age = age
delete_refusal kinds.Directory age = age

-- ---- by the tokens

-- the root is open, the token is new, and the path is one name beneath its parent's directory
abbrev pub place_refusal : EditState → List ℕ → List ℕ → PathValue → Option Refusal
place_refusal e parent token p =
    unless (is_some e.txn && is_placed e.tokens parent token p) refusals.MalformedData

-- the token is new, and a directory may be opened there
abbrev pub is_opening : EditState → List ℕ → List ℕ → PathValue → Bool
is_opening e parent token p =
    not (is_some (opened_under e.tokens token))
    && may_open e.is_of_today e.path (directory_of e.tokens parent) p

-- so it is, and the root is open
abbrev pub opening_refusal : EditState → List ℕ → List ℕ → PathValue → Option Refusal
opening_refusal e parent token p =
    unless (is_some e.txn && is_opening e parent token p) refusals.MalformedData

-- the root is open, and the path is one name beneath its parent's directory
abbrev pub parent_refusal : EditState → List ℕ → PathValue → Option Refusal
parent_refusal e parent p =
    unless (is_some e.txn && is_within (directory_of e.tokens parent) p) refusals.MalformedData

abbrev pub open_under : EditState → List ℕ → Option Opened
open_under e token = open_in e.txn e.tokens token

-- ---- by paths

-- the path of a copy's source: a URL, or a path with a slash in front
abbrev pub source_path : List ℕ → List ℕ → Result PathValue PathFault
source_path name text = if starts_with_slash text then parsed text else path_of_text text name

abbrev pub path_fault : {T : Type 0} → Result T PathFault → Option Refusal
path_fault (Ok value) = None
path_fault (Err fault) = Some (path_refusal fault)

abbrev pub sourced : ℕ → Result PathValue PathFault → Result (Option Source) PathFault
sourced revision (Ok p) = Ok (Some (record { revision = revision; path = p }))
sourced revision (Err fault) = Err fault

-- the source of a copy that a command names, if it names one
abbrev pub source_of : List ℕ → Option (List ℕ × ℕ) → Result (Option Source) PathFault
source_of name None = Ok None
source_of name (Some source) = sourced source.1 (source_path name source.0)

-- ---- by the source of a copy

-- a copy goes where nothing stands, and within a copy over what stands there
abbrev pub room_refusal : Bool → NodeKind → Option Refusal
room_refusal in_copy kind = unless (in_copy || not (is_present kind)) refusals.OutOfDate

-- what is copied is there, and of the kind that is added
abbrev pub source_kind_refusal : Bool → NodeKind → Option Refusal
source_kind_refusal is_file kind =
    if is_file then file_refusal kind (age_refusal None None) else directory_refusal kind

-- the copy makes no deeper path
abbrev pub depth_refusal : RepoState → Source → PathValue → Option Refusal
depth_refusal c source p =
    unless (not (has_deeper_at c source.revision source.path (DEPTH_LIMIT - length p)))
    refusals.NotSupported

abbrev pub source_refusal : RepoState → Bool → PathValue → Source → Option Refusal
source_refusal c is_file p source =
    first (unless (nat_le source.revision (youngest c)) refusals.NoSuchRevision)
    (first (source_kind_refusal is_file (kind_at c source.revision source.path))
    (depth_refusal c source p))

-- ---- by properties and texts

-- the names that belong to clients and to this protocol
abbrev pub is_reserved : List ℕ → Bool
is_reserved name =
    starts_with ◌==◌ name (codes "svn:entry:") || starts_with ◌==◌ name (codes "svn:wc:")

abbrev pub may_be_named : List ℕ → Bool
may_be_named name = is_property_name name && not (is_reserved name)

abbrev pub name_refusal : List ℕ → Option Refusal
name_refusal name = unless (may_be_named name) refusals.NotSupported

-- a checksum is the MD5 of a text, as hexadecimal digits of either case
abbrev pub checksum_refusal : Option (List ℕ) → List ℕ → Option Refusal
checksum_refusal None text = None
checksum_refusal (Some digits) text =
    unless (str_eq_ignore_ascii_case digits (encode_lower (md5 text))) refusals.ChecksumMismatch

-- the document breaks a rule, whatever comes
abbrev pub reading_refusal : Reading → Option Refusal
reading_refusal (opening bytes) = None
reading_refusal (going text bytes) = None
reading_refusal (broken fault) = Some refusals.BadSvndiff

-- the document has no text
abbrev pub outcome_refusal : Result (List ℕ) DiffFault → Option Refusal
outcome_refusal (Ok text) = None
outcome_refusal (Err fault) = Some refusals.BadSvndiff

-- ---- each command

abbrev pub before_root : EditState → Option Refusal
before_root e = unless (not (is_some e.txn)) refusals.MalformedData

abbrev pub open_root_refusal : RepoState → EditState → Option Refusal
open_root_refusal c e = first (before_root e) (directory_refusal (kind_at c (youngest c) e.path))

abbrev pub delete_entry_refusal : EditState → DeletedEntry → Result PathValue PathFault
    → Option Refusal
delete_entry_refusal e entry (Err fault) = Some (path_refusal fault)
delete_entry_refusal e entry (Ok p) =
    first (parent_refusal e entry.parent p)
    (delete_refusal (standing e.txn p) (age_refusal entry.revision (created e.txn p)))

-- a new entry goes where nothing stands
abbrev pub adding_refusal : RepoState → EditState → Bool → AddedEntry → PathValue → Option Source
    → Option Refusal
adding_refusal c e is_file entry p None = add_refusal (standing e.txn p)
adding_refusal c e is_file entry p (Some source) =
    first (room_refusal (copies_under e.tokens entry.parent) (standing e.txn p))
    (source_refusal c is_file p source)

-- at the path that is named, from the source that is, if one is
abbrev pub add_at_refusal : RepoState → EditState → Bool → AddedEntry → PathValue → Option Source
    → Option Refusal
add_at_refusal c e is_file entry p source =
    first (place_refusal e entry.parent entry.token p) (adding_refusal c e is_file entry p source)

-- a directory or a file, new or a copy
abbrev pub add_entry_refusal : RepoState → EditState → Bool → AddedEntry
    → Result PathValue PathFault
    → Result (Option Source) PathFault → Option Refusal
add_entry_refusal c e is_file entry (Err fault) source = Some (path_refusal fault)
add_entry_refusal c e is_file entry (Ok p) (Err fault) = Some (path_refusal fault)
add_entry_refusal c e is_file entry (Ok p) (Ok source) = add_at_refusal c e is_file entry p source

abbrev pub open_directory_refusal : EditState → OpenedEntry → Result PathValue PathFault
    → Option Refusal
open_directory_refusal e entry (Err fault) = Some (path_refusal fault)
open_directory_refusal e entry (Ok p) =
    first (opening_refusal e entry.parent entry.token p) (directory_refusal (standing e.txn p))

abbrev pub open_file_refusal : EditState → OpenedEntry → Result PathValue PathFault → Option Refusal
open_file_refusal e entry (Err fault) = Some (path_refusal fault)
open_file_refusal e entry (Ok p) =
    first (place_refusal e entry.parent entry.token p)
    (file_refusal (standing e.txn p) (age_refusal entry.revision (created e.txn p)))

abbrev pub absent_refusal : EditState → AbsentEntry → Result PathValue PathFault → Option Refusal
absent_refusal e entry (Err fault) = Some (path_refusal fault)
absent_refusal e entry (Ok p) = parent_refusal e entry.parent p

abbrev pub directory_property_refusal : EditState → List ℕ → Option Opened → Option Refusal
directory_property_refusal e name (Some (Directory d)) =
    first (name_refusal name) (age_refusal d.revision (created_for_guard e d.path))
directory_property_refusal e name (Some (File p delta)) = Some refusals.MalformedData
directory_property_refusal e name None = Some refusals.MalformedData

abbrev pub file_property_refusal : List ℕ → Option Opened → Option Refusal
file_property_refusal name (Some (File p delta)) = name_refusal name
file_property_refusal name (Some (Directory d)) = Some refusals.MalformedData
file_property_refusal name None = Some refusals.MalformedData

-- a file has one text delta
abbrev pub begin_delta_refusal : EditState → Option (List ℕ) → Option Opened → Option Refusal
begin_delta_refusal e checksum (Some (File p deltas.NotBegun)) =
    checksum_refusal checksum (file_text e p)
begin_delta_refusal e checksum (Some (File p (deltas.Reading a))) = Some refusals.MalformedData
begin_delta_refusal e checksum (Some (File p deltas.Ended)) = Some refusals.MalformedData
begin_delta_refusal e checksum (Some (Directory d)) = Some refusals.MalformedData
begin_delta_refusal e checksum None = Some refusals.MalformedData

abbrev pub chunk_refusal : List ℕ → Option Opened → Option Refusal
chunk_refusal bytes (Some (File p (deltas.Reading a))) = reading_refusal (fed a bytes).reading
chunk_refusal bytes (Some (File p deltas.NotBegun)) = Some refusals.MalformedData
chunk_refusal bytes (Some (File p deltas.Ended)) = Some refusals.MalformedData
chunk_refusal bytes (Some (Directory d)) = Some refusals.MalformedData
chunk_refusal bytes None = Some refusals.MalformedData

abbrev pub end_delta_refusal : Option Opened → Option Refusal
end_delta_refusal (Some (File p (deltas.Reading a))) = outcome_refusal (outcome a.reading)
end_delta_refusal (Some (File p deltas.NotBegun)) = Some refusals.MalformedData
end_delta_refusal (Some (File p deltas.Ended)) = Some refusals.MalformedData
end_delta_refusal (Some (Directory d)) = Some refusals.MalformedData
end_delta_refusal None = Some refusals.MalformedData

abbrev pub close_directory_refusal : Option Opened → Option Refusal
close_directory_refusal (Some (Directory d)) = None
close_directory_refusal (Some (File p delta)) = Some refusals.MalformedData
close_directory_refusal None = Some refusals.MalformedData

-- its text delta has ended, and its text has this checksum
abbrev pub closed_text_refusal : EditState → Option (List ℕ) → PathValue → DeltaState → Option Refusal
closed_text_refusal e checksum p (deltas.Reading a) = Some refusals.MalformedData
closed_text_refusal e checksum p deltas.NotBegun = checksum_refusal checksum (file_text e p)
closed_text_refusal e checksum p deltas.Ended = checksum_refusal checksum (file_text e p)

abbrev pub close_file_refusal : EditState → Option (List ℕ) → Option Opened → Option Refusal
close_file_refusal e checksum (Some (File p delta)) = closed_text_refusal e checksum p delta
close_file_refusal e checksum (Some (Directory d)) = Some refusals.MalformedData
close_file_refusal e checksum None = Some refusals.MalformedData

abbrev pub command_refusal : RepoState → EditState → EditorCommand → Option Refusal
command_refusal c e (TargetRevision revision) = before_root e
command_refusal c e (OpenRoot revision token) = open_root_refusal c e
command_refusal c e (DeleteEntry entry) = delete_entry_refusal e entry (joined e.path entry.path)
command_refusal c e (AddDirectory entry) =
    add_entry_refusal c e false entry (joined e.path entry.path) (source_of e.name entry.source)
command_refusal c e (AddFile entry) =
    add_entry_refusal c e true entry (joined e.path entry.path) (source_of e.name entry.source)
command_refusal c e (OpenDirectory entry) =
    open_directory_refusal e entry (joined e.path entry.path)
command_refusal c e (OpenFile entry) = open_file_refusal e entry (joined e.path entry.path)
command_refusal c e (AbsentDirectory entry) = absent_refusal e entry (joined e.path entry.path)
command_refusal c e (AbsentFile entry) = absent_refusal e entry (joined e.path entry.path)
command_refusal c e (ChangeDirectoryProperty change) =
    directory_property_refusal e change.name (open_under e change.token)
command_refusal c e (ChangeFileProperty change) =
    file_property_refusal change.name (open_under e change.token)
command_refusal c e (ApplyTextDelta token checksum) =
    begin_delta_refusal e checksum (open_under e token)
command_refusal c e (TextDeltaChunk token bytes) = chunk_refusal bytes (open_under e token)
command_refusal c e (TextDeltaEnd token) = end_delta_refusal (open_under e token)
command_refusal c e (CloseDirectory token) = close_directory_refusal (open_under e token)
command_refusal c e (CloseFile token checksum) = close_file_refusal e checksum (open_under e token)
-- these end an edit, and are not the editor's
command_refusal c e CloseEdit = Some refusals.MalformedData
command_refusal c e AbortEdit = Some refusals.MalformedData

-- why a command is refused, if it is; after a refusal each is
abbrev pub edit_refusal : RepoState → EditState → EditorCommand → Option Refusal
edit_refusal c e command =
    if e.refused then Some refusals.EditAborted else command_refusal c e command
