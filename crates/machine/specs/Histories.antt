-- What the commands are answered that read the history of paths.
use Rattle.std.specs.Prelude.{ℕ, Bool, true, false, not, ◌||◌, max, min, nat_lt, List, [], ◌∷◌, ◌++◌, map, Option, Some, None, Result, Ok, Err, if◌then◌else◌}
use Rattle.std.specs.{Prelude.codes, List.{find, list_all, list_any}}
use Rattle.svnpath.specs.{Listings.listing, Paths.PathValue, Texts.joined, declared.fault.PathFault.PathFault}
use Rattle.refusals.specs.{declared.Refusal.Refusal, Refusing.path_refusal}
use Rattle.refusals.specs.declared.Refusal.TheVariants as refusals
use Rattle.repo_api.specs.{Histories.{Changed, history_of}, Kinds.{is_file_kind, is_present, kind_at, properties_at, text_at}}
use Rattle.repo_api.specs.{Properties.{is_same_value, PropertyList}, States.{RepoState, youngest}}
use Rattle.traces.specs.declared.place.Place.{Place}
use Rattle.history.specs.{Locations.{kind_shown, locations}, Logs.{log, newest_asked, place_at}, declared.log_ask.LogAsk.LogAsk}
use Rattle.file_histories.specs.{Deleted.deleted_revision, Differing.differing, FileRevisions.file_revisions, Segments.{cut, segments}}
use Rattle.file_histories.specs.declared.segment.Segment.{Segment}
use Rattle.commands.specs.{declared.command.GetLocationsCommand.GetLocationsCommand, declared.command.LogCommand.LogCommand}
use Rattle.commands.specs.{declared.command.GetDeletedRevCommand.GetDeletedRevCommand, declared.command.GetFileRevsCommand.GetFileRevsCommand}
use Rattle.commands.specs.declared.command.GetLocationSegmentsCommand.{GetLocationSegmentsCommand}
use Rattle.text_deltas.specs.Deltas.{delta_chunks}
use Rattle.wire_deltas.specs.Texts.{text_or_empty}
use Rattle.wire_replies.specs.{Replies.logged_change, declared.histories.LoggedChange.LoggedChange, declared.reply.Reply.Reply}
use Rattle.wire_replies.specs.declared.reply.Reply.TheVariants as replies
use Rattle.machine.specs.{Answers.failure_at, Readings.{author_of, entry_properties, no_file, revision_date, revision_value}}

-- ---- the end of what is listed

-- that no more is listed, and what the command came to
abbrev pub ended : Reply → List Reply
ended reply = replies.Done ∷ reply ∷ []

-- what was listed, or why nothing is, and at which path, as a client of today, or another, is told
abbrev pub listed_unless : Bool → Option Refusal → Option PathValue → List Reply → List Reply
listed_unless is_of_today None path told = told ++ ended replies.Success
listed_unless is_of_today (Some r) path told = ended (failure_at is_of_today r path)

-- ---- what stands where

-- whether something stands at the path of a revision
abbrev pub is_there : RepoState → ℕ → PathValue → Bool
is_there c n p = is_present (kind_at c n p)

-- whether a revision is above the youngest
abbrev pub is_to_come : RepoState → ℕ → Bool
is_to_come c n = nat_lt (youngest c) n

-- ---- logs

-- the revision that is named, or the youngest
abbrev pub or_youngest : RepoState → Option ℕ → ℕ
or_youngest c None = youngest c
or_youngest c (Some n) = n

-- what a log is asked for
abbrev pub log_ask : RepoState → LogCommand → LogAsk
log_ask c command = record {
  strict = command.strict;
  start = or_youngest c command.start;
  end = or_youngest c command.end;
  limit = command.limit;
}

-- a path in front of others, or the first fault of a path
abbrev pub path_before : Result PathValue PathFault → Result (List PathValue) PathFault
    → Result (List PathValue) PathFault
path_before (Err fault) rest = Err fault
path_before (Ok path) (Err fault) = Err fault
path_before (Ok path) (Ok paths) = Ok (path ∷ paths)

-- the paths as they are seen from the path of the client's URL
abbrev pub all_joined : PathValue → List (List ℕ) → Result (List PathValue) PathFault
all_joined base [] = Ok []
all_joined base (path ∷ paths) = path_before (joined base path) (all_joined base paths)

-- why a log is refused: a revision is above the youngest, or a path is not in the greater of the
-- two
abbrev pub log_refusal : RepoState → LogAsk → List PathValue → Option Refusal
log_refusal c ask paths =
    if is_to_come c (newest_asked ask) then Some refusals.NoSuchRevision
    else if list_all (is_there c (newest_asked ask)) paths then None else Some refusals.NotFound

-- the first of the paths that is not in the greater of the two revisions of a log
abbrev pub first_missing : RepoState → LogAsk → List PathValue → Option PathValue
first_missing c ask paths = find (λ p. not (is_there c (newest_asked ask) p)) paths

-- a change, with the kind of what it made, or of what it deleted
abbrev pub change_told : RepoState → ℕ → Changed → LoggedChange
change_told c n e = logged_change e.0 e.1 (kind_shown c n e)

-- the changes of a revision by the bytes of their paths, where they are wanted
abbrev pub changes_told : RepoState → Bool → ℕ → List LoggedChange
changes_told c false n = []
changes_told c true n = map (change_told c n) (listing (history_of c n))

-- the message of a revision
abbrev pub message_of : RepoState → ℕ → Option (List ℕ)
message_of c n = revision_value c (codes "svn:log") n

-- a revision, as a log tells it
abbrev pub revision_told : RepoState → Bool → ℕ → Reply
revision_told c wants_changes n = replies.LogEntry (record {
  changes = changes_told c wants_changes n;
  revision = n;
  author = author_of c n;
  date = revision_date c n;
  message = message_of c n;
})

-- the revisions of a log, as they are told
abbrev pub log_told : RepoState → Bool → LogAsk → List PathValue → List Reply
log_told c wants_changes ask paths =
    map (revision_told c wants_changes) (log (history_of c) ask paths)

-- a bad path is refused before a revision that is not there, and that before a path that is not
abbrev pub log_replies : Bool → RepoState → LogCommand → Result (List PathValue) PathFault
    → List Reply
log_replies is_of_today c command (Err fault) = ended (replies.Failure (path_refusal fault) None)
log_replies is_of_today c command (Ok paths) =
    let ask = log_ask c command in
    listed_unless is_of_today (log_refusal c ask paths) (first_missing c ask paths)
    (log_told c command.wants_changes ask paths)

-- ---- locations

-- why locations are refused: a revision is above the youngest, or the path is not in the peg
-- revision
abbrev pub locations_refusal : RepoState → Place → List ℕ → Option Refusal
locations_refusal c at ns =
    if list_any (is_to_come c) (at.revision ∷ ns) then Some refusals.NoSuchRevision
    else if is_there c at.revision at.path then None else Some refusals.NotFound

abbrev pub location_told : ℕ × PathValue → Reply
location_told found = replies.Location found.0 found.1

abbrev pub locations_told : RepoState → Place → List ℕ → List Reply
locations_told c at ns = map location_told (locations c at ns)

-- a bad path is refused before a revision that is not there, and that before a path that is not
abbrev pub locations_replies : Bool → RepoState → GetLocationsCommand
    → Result PathValue PathFault → List Reply
locations_replies is_of_today c command (Err fault) =
    ended (replies.Failure (path_refusal fault) None)
locations_replies is_of_today c command (Ok path) =
    let at = place_at command.peg path in
    listed_unless is_of_today (locations_refusal c at command.revisions) (Some path)
    (locations_told c at command.revisions)

-- ---- segments

-- the revision that is named, or the first
abbrev pub or_first : Option ℕ → ℕ
or_first None = 0
or_first (Some n) = n

-- why segments are refused: the peg revision is above the youngest, the three are not in order, or
-- the path is not in the peg revision
abbrev pub segments_refusal : RepoState → Place → ℕ → ℕ → Option Refusal
segments_refusal c at start end =
    if is_to_come c at.revision || (nat_lt at.revision start || nat_lt start end)
    then Some refusals.NoSuchRevision
    else if is_there c at.revision at.path then None else Some refusals.NotFound

abbrev pub segment_told : Segment → Reply
segment_told s = replies.Segment s.first s.last s.path

-- the segments of a path, the newest first, cut to what lies between two revisions
abbrev pub segments_told : RepoState → Place → ℕ → ℕ → List Reply
segments_told c at start end =
    map segment_told (cut end start (segments (history_of c) at.revision at.path))

-- a bad path is refused before a revision, and that before a path that is not there
abbrev pub segments_replies : Bool → RepoState → GetLocationSegmentsCommand
    → Result PathValue PathFault → List Reply
segments_replies is_of_today c command (Err fault) =
    ended (replies.Failure (path_refusal fault) None)
segments_replies is_of_today c command (Ok path) =
    let at = place_at (or_youngest c command.peg) path in
    let start = or_youngest c command.start in
    let end = or_first command.end in
    listed_unless is_of_today (segments_refusal c at start end) (Some path)
    (segments_told c at start end)

-- ---- what was deleted

-- the revision in which something was deleted, if it was
abbrev pub deleted_found : Option ℕ → Reply
deleted_found None = replies.Failure refusals.NotDeleted None
deleted_found (Some n) = replies.Revision n

-- of the two revisions, in whichever order they come, the smaller has what is meant
abbrev pub deleted_reply : RepoState → GetDeletedRevCommand → Result PathValue PathFault → Reply
deleted_reply c command (Err fault) = replies.Failure (path_refusal fault) None
deleted_reply c command (Ok path) =
    let low = min command.peg command.end in
    let high = max command.peg command.end in
    if is_to_come c high then replies.Failure refusals.NoSuchRevision None
    else deleted_found (deleted_revision c path low high)

-- ---- the revisions of a file

-- why the revisions of a file are refused: the greater revision is above the youngest, merged ones
-- are wanted too, or the path is no file there
abbrev pub file_revisions_refusal : RepoState → Bool → Place → Option Refusal
file_revisions_refusal c wants_merged at =
    if is_to_come c at.revision then Some refusals.NoSuchRevision
    else if wants_merged then Some refusals.NotSupported
    else if is_file_kind (kind_at c at.revision at.path) then None
    else Some (no_file (kind_at c at.revision at.path))

-- the text and the properties of a file that was sent before, if one was
abbrev pub text_before : RepoState → Option Place → List ℕ
text_before c None = []
text_before c (Some at) = text_or_empty (text_at c at.revision at.path)

abbrev pub properties_before : RepoState → Option Place → PropertyList
properties_before c None = []
properties_before c (Some at) = entry_properties c at.revision at.path

-- whether the file has the text that was sent before
abbrev pub has_text_of : RepoState → Option Place → Place → Bool
has_text_of c None at = false
has_text_of c (Some before) at =
    is_same_value (text_at c before.revision before.path) (text_at c at.revision at.path)

-- a revision of a file: its path there, the properties of the revision, and what differs in those of
-- the file from what was sent before
abbrev pub file_revision_head : RepoState → Option Place → Place → Reply
file_revision_head c before at = replies.FileRevision (record {
  path = at.path;
  revision = at.revision;
  properties = properties_at c at.revision;
  changes = differing (properties_before c before) (entry_properties c at.revision at.path);
})

-- the text, as a delta, if it is another than before
abbrev pub delta_told : Bool → List ℕ → List ℕ → List Reply
delta_told true before text = []
delta_told false before text = map replies.Chunk (delta_chunks before text)

-- all that is told of a revision of a file, behind what was sent before
abbrev pub file_revision_told : RepoState → Option Place → Place → List Reply
file_revision_told c before at =
    file_revision_head c before at
    ∷ (delta_told (has_text_of c before at) (text_before c before) (text_before c (Some at))
    ++ replies.Chunk [] ∷ [])

-- revisions of a file, each as it differs from the one before
abbrev pub told_in_turn : RepoState → Option Place → List Place → List Reply
told_in_turn c before [] = []
told_in_turn c before (at ∷ places) =
    file_revision_told c before at ++ told_in_turn c (Some at) places

-- a bad path is refused before a revision, and that before what is there
abbrev pub file_revisions_replies : Bool → RepoState → GetFileRevsCommand
    → Result PathValue PathFault → List Reply
file_revisions_replies is_of_today c command (Err fault) =
    ended (replies.Failure (path_refusal fault) None)
file_revisions_replies is_of_today c command (Ok path) =
    let start = or_youngest c command.start in
    let end = or_youngest c command.end in
    listed_unless is_of_today
    (file_revisions_refusal c command.wants_merged (place_at (max start end) path)) (Some path)
    (told_in_turn c None (file_revisions (history_of c) path start end))
