-- The items that replies are sent as.
use Rattle.std.specs.{Prelude.{ℕ, Bool, List, [], ◌∷◌, ◌++◌, Option, Some, None, codes, drop, if◌then◌else◌, map}, Int.{to_be_bytes, w128}, List.flat_map}
use Rattle.uuid.specs.Text.{hyphenated_text, lower}
use Rattle.wire_edits.specs.Printing.{command_item}
use Rattle.items.specs.{Print.printed, Values.{both, ItemValue, ItemValues, list, more, none, number, only, string, word}, View.row_of}
use Rattle.refusals.specs.{Table.{refusal_number, refusal_text}, declared.Refusal.Refusal}
use Rattle.refusals.specs.declared.Refusal.TheVariants as refusals
use Rattle.svnpath.specs.{Paths.PathValue, Texts.path_text}
use Rattle.repo_api.specs.{Properties.PropertyList, declared.change.Action.Action, declared.change.Change.Change, declared.change.Source.Source}
use Rattle.repo_api.specs.{declared.lock.Lock.Lock as LockValue, declared.entry.NodeKind.NodeKind}
use Rattle.repo_api.specs.declared.change.Action.TheVariants as actions
use Rattle.repo_api.specs.declared.entry.NodeKind.TheVariants as kinds
use Rattle.wire_replies.specs.{Pieces.pieces, declared.entries.DirectoryInfo.DirectoryInfo as DirectoryInfoValue}
use Rattle.wire_replies.specs.{declared.entries.FileInfo.FileInfo as FileInfoValue, declared.entries.NodeInfo.NodeInfo}
use Rattle.wire_replies.specs.{declared.failures.FailureLink.FailureLink, declared.histories.LogEntry.LogEntry as LogEntryValue}
use Rattle.wire_replies.specs.{declared.file_revisions.FileRevision.FileRevision as FileRevisionValue, declared.histories.LoggedChange.LoggedChange}
use Rattle.wire_replies.specs.{declared.reply.Offer.Offer, declared.reply.Offer.TheVariants.{Anonymous, AnonymousOrUser, User, External}}
use Rattle.wire_replies.specs.{declared.reply.Reply.Reply, declared.reply.Reply.TheVariants.{Greeting, NoLogin, Login, MechanismNotOffered, Challenge}}
use Rattle.wire_replies.specs.declared.reply.Reply.TheVariants.{LoginFailed, Success, ReposInfo, Revision, Kind, Properties, Lock, Locks, CommitInfo, FileInfo}
use Rattle.wire_replies.specs.declared.reply.Reply.TheVariants.{Piece, DirectoryInfo, Stat, RevisionProperty, LogEntry, Location, Segment, FileRevision, Chunk}
use Rattle.wire_replies.specs.declared.reply.Reply.TheVariants.{Edit, ReplayedProperties, FinishReplay, Done, Failure, Failures}

-- the text of a number of 128 bits: `8-4-4-4-12` lower-case hexadecimal digits
abbrev pub uuid_text : ℕ → List ℕ
uuid_text n = hyphenated_text lower (to_be_bytes w128 n)

-- `( success ( params ) )`
abbrev pub success : ItemValues → ItemValue
success params = list (both (word (codes "success")) (list params))

-- `( failure ( params ) )`
abbrev pub failure : ItemValues → ItemValue
failure params = list (both (word (codes "failure")) (list params))

-- the word of a kind
abbrev pub kind_word : NodeKind → List ℕ
kind_word kinds.Absent = codes "none"
kind_word kinds.File = codes "file"
kind_word kinds.Directory = codes "dir"

-- the words of the mechanisms that are offered
abbrev pub mechanism_trees : Offer → ItemValues
mechanism_trees Anonymous = only (word (codes "ANONYMOUS"))
mechanism_trees AnonymousOrUser = both (word (codes "ANONYMOUS")) (word (codes "CRAM-MD5"))
mechanism_trees User = only (word (codes "CRAM-MD5"))
mechanism_trees External = only (word (codes "EXTERNAL"))

-- `( name value ) ...`
abbrev pub property_trees : PropertyList → ItemValues
property_trees [] = none
property_trees (p ∷ ps) = more (list (both (string p.0) (string p.1))) (property_trees ps)

-- `[ string ]`
abbrev pub optional_string_trees : Option (List ℕ) → ItemValues
optional_string_trees None = none
optional_string_trees (Some s) = only (string s)

-- the word `true` or `false`
abbrev pub boolean_name : Bool → List ℕ
boolean_name value = if value then codes "true" else codes "false"

-- `kind size has-props created-rev [ date ] [ author ]`
abbrev pub node_trees : NodeInfo → List ItemValue
node_trees node =
    word (kind_word node.kind) ∷ number node.size ∷ word (boolean_name node.has_properties)
    ∷ number node.created ∷ list (optional_string_trees node.date)
    ∷ list (optional_string_trees node.author) ∷ []

-- `( name kind size has-props created-rev [ date ] [ author ] )`
abbrev pub entry_tree : List ℕ → NodeInfo → ItemValue
entry_tree name node = list (row_of (string name ∷ node_trees node))

-- `( name kind size has-props created-rev [ date ] [ author ] ) ...`
abbrev pub entry_trees : List (List ℕ × NodeInfo) → ItemValues
entry_trees [] = none
entry_trees (e ∷ es) = more (entry_tree e.0 e.1) (entry_trees es)

-- `[ ( kind size has-props created-rev [ date ] [ author ] ) ]`
abbrev pub stat_trees : Option NodeInfo → ItemValues
stat_trees None = none
stat_trees (Some node) = only (list (row_of (node_trees node)))

-- `( success ( [ md5 ] rev ( ( name value ) ... ) ) )`: what a client is told of a file
abbrev pub file_info : FileInfoValue → ItemValue
file_info info =
    success (more (list (optional_string_trees info.digest))
    (both (number info.revision) (list (property_trees info.properties))))

-- `( success ( rev ( ( name value ) ... ) ( entry ... ) ) )`: what it is told of a directory
abbrev pub directory_info : DirectoryInfoValue → ItemValue
directory_info info =
    success (more (number info.revision)
    (both (list (property_trees info.properties)) (list (entry_trees info.entries))))

-- the letter of an action
abbrev pub action_word : Action → List ℕ
action_word actions.Add = codes "A"
action_word actions.Delete = codes "D"
action_word actions.Replace = codes "R"
action_word actions.Modify = codes "M"

-- `[ copy-path copy-rev ]`
abbrev pub source_trees : Option Source → ItemValues
source_trees None = none
source_trees (Some source) = both (string (path_text source.path)) (number source.revision)

-- a change at a path, where something of this kind stands or stood
abbrev pub logged_change : PathValue → Change → NodeKind → LoggedChange
logged_change path change kind = record { path = path; change = change; kind = kind }

-- `( path action [ copy-path copy-rev ] ( kind text-mods prop-mods ) )`: the kind is a string
abbrev pub change_tree : LoggedChange → ItemValue
change_tree logged =
    list (more (string (path_text logged.path)) (more (word (action_word logged.change.action))
    (both (list (source_trees logged.change.source))
    (list (more (string (kind_word logged.kind))
    (both (word (boolean_name logged.change.text))
    (word (boolean_name logged.change.properties))))))))

-- `( path action [ copy-path copy-rev ] ( kind text-mods prop-mods ) ) ...`
abbrev pub change_trees : List LoggedChange → ItemValues
change_trees [] = none
change_trees (c ∷ cs) = more (change_tree c) (change_trees cs)

-- `( ( change ... ) rev [ author ] [ date ] [ message ] )`: a revision of a log
abbrev pub log_entry : LogEntryValue → ItemValue
log_entry entry =
    list (more (list (change_trees entry.changes)) (more (number entry.revision)
    (more (list (optional_string_trees entry.author))
    (both (list (optional_string_trees entry.date))
    (list (optional_string_trees entry.message))))))

-- `( rev path )`: where something was in a revision
abbrev pub location_item : ℕ → PathValue → ItemValue
location_item revision path = list (both (number revision) (string (path_text path)))

-- the text of a path without the slash before it: the root's is empty
abbrev pub bare_text : PathValue → List ℕ
bare_text path = drop 1 (path_text path)

-- `[ path ]`
abbrev pub bare_path_trees : Option PathValue → ItemValues
bare_path_trees None = none
bare_path_trees (Some path) = only (string (bare_text path))

-- `( first last [ path ] )`: where something was in these revisions, or that it was nowhere
abbrev pub segment_item : ℕ → ℕ → Option PathValue → ItemValue
segment_item first last path =
    list (more (number first) (both (number last) (list (bare_path_trees path))))

-- `( name [ value ] ) ...`: properties that have a value now, or none
abbrev pub property_change_trees : List (List ℕ × Option (List ℕ)) → ItemValues
property_change_trees [] = none
property_change_trees (c ∷ cs) =
    more (list (both (string c.0) (list (optional_string_trees c.1)))) (property_change_trees cs)

-- `( path rev ( ( name value ) ... ) ( ( name [ value ] ) ... ) false )`: a revision of a file, with
-- the properties of the revision, and what differs in those of the file; none was merged
abbrev pub file_revision : FileRevisionValue → ItemValue
file_revision told =
    list (more (string (path_text told.path)) (more (number told.revision)
    (more (list (property_trees told.properties))
    (both (list (property_change_trees told.changes)) (word (codes "false"))))))

-- `( revprops ( ( name value ) ... ) )`: the properties of a revision that is replayed
abbrev pub replayed_properties : PropertyList → ItemValue
replayed_properties properties =
    list (both (word (codes "revprops")) (list (property_trees properties)))

-- `( path token owner [ comment ] created ( ) )`: a lock at a path; no lock has an end
abbrev pub lock_tree : PathValue → LockValue → ItemValue
lock_tree path lock =
    list (more (string (path_text path)) (more (string lock.token) (more (string lock.owner)
    (more (list (optional_string_trees lock.comment)) (both (string lock.created) (list none))))))

-- `( path token owner [ comment ] created ( ) ) ...`
abbrev pub lock_trees : List (PathValue × LockValue) → ItemValues
lock_trees [] = none
lock_trees (l ∷ ls) = more (lock_tree l.0 l.1) (lock_trees ls)

-- `( number message file line )`: a link of a failure
abbrev pub link_item : FailureLink → ItemValue
link_item link =
    list (more (number link.number) (more (string link.message)
    (both (string link.file) (number link.line))))

-- `( number message file line ) ...`
abbrev pub link_items : List FailureLink → ItemValues
link_items [] = none
link_items (l ∷ ls) = more (link_item l) (link_items ls)

-- what is told of a release of locks behind a commit: nothing, or that it has failed
abbrev pub release_fault : Bool → ItemValues
release_fault fails = if fails then only (string (refusal_text refusals.StoreFailed)) else none

-- `( rev [ date ] [ author ] [ post-commit-err ] )`: what a client is told of its commit
abbrev pub commit_info : ℕ → List ℕ → Option (List ℕ) → Bool → ItemValue
commit_info revision date author release_fails =
    list (more (number revision) (more (list (only (string date)))
    (both (list (optional_string_trees author)) (list (release_fault release_fails)))))

-- the message of a refusal: its text, and the path at which a command is refused, if that is told
abbrev pub refusal_message : Refusal → Option PathValue → List ℕ
refusal_message r None = refusal_text r
refusal_message r (Some path) = (refusal_text r ++ codes ": ") ++ path_text path

-- what the server can do
abbrev pub capabilities : ItemValues
capabilities =
    more (word (codes "edit-pipeline"))
    (more (word (codes "absent-entries"))
    (more (word (codes "commit-revprops"))
    (both (word (codes "depth")) (word (codes "atomic-revprops")))))

-- the item of each reply
abbrev pub reply_item : Reply → ItemValue
reply_item Greeting =
    success (more (number 2) (more (number 2) (both (list none) (list capabilities))))
reply_item NoLogin = success (both (list none) (string []))
reply_item (Login offer realm) = success (both (list (mechanism_trees offer)) (string realm))
reply_item MechanismNotOffered = failure (only (string (codes "mechanism not offered")))
reply_item (Challenge text) = list (both (word (codes "step")) (list (only (string text))))
reply_item LoginFailed = failure (only (string (codes "login failed")))
reply_item Success = success none
reply_item (ReposInfo uuid root) =
    success (more (string (uuid_text uuid)) (both (string root) (list none)))
reply_item (Revision n) = success (only (number n))
reply_item (Kind kind) = success (only (word (kind_word kind)))
reply_item (Properties ps) = success (only (list (property_trees ps)))
reply_item (Lock path lock) = success (only (lock_tree path lock))
reply_item (Locks ls) = success (only (list (lock_trees ls)))
reply_item (CommitInfo revision date author release_fails) =
    commit_info revision date author release_fails
reply_item (FileInfo info) = file_info info
reply_item (Piece bytes) = string bytes
reply_item (DirectoryInfo info) = directory_info info
reply_item (Stat node) = success (only (list (stat_trees node)))
reply_item (RevisionProperty value) = success (only (list (optional_string_trees value)))
reply_item (LogEntry entry) = log_entry entry
reply_item (Location revision path) = location_item revision path
reply_item (Segment first last path) = segment_item first last path
reply_item (FileRevision told) = file_revision told
reply_item (Chunk bytes) = string bytes
reply_item (Edit command) = command_item command
reply_item (ReplayedProperties properties) = replayed_properties properties
reply_item FinishReplay = list (both (word (codes "finish-replay")) (list none))
reply_item Done = word (codes "done")
reply_item (Failure refusal path) =
    failure (only (list (more (number (refusal_number refusal))
    (more (string (refusal_message refusal path)) (both (string []) (number 0))))))
reply_item (Failures links) = failure (link_items links)

-- the bytes of replies
abbrev pub print : List Reply → List ℕ
print rs = flat_map (λ r. printed (reply_item r)) rs

-- ---- the text of a file

-- the replies that bring a text: its pieces, and an empty string behind them
abbrev pub contents : List ℕ → List Reply
contents text = map Piece (pieces text) ++ Piece [] ∷ []
