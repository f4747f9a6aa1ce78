-- What the commands are answered that read entries, and properties of revisions.
use Rattle.std.specs.Prelude.{ℕ, Bool, true, false, List, [], ◌∷◌, ◌++◌, length, map, Option, Some, None, option_map, Result, Ok, Err, if◌then◌else◌, codes}
use Rattle.std.specs.{Prelude.decimal, List.find, Option.option_map_or}
use Rattle.md5.specs.Md5.{md5}
use Rattle.hex.specs.Hex.{encode_lower}
use Rattle.svnpath.specs.{Paths.{Component, PathValue}, declared.fault.PathFault.PathFault}
use Rattle.refusals.specs.{declared.Refusal.Refusal, Refusing.path_refusal}
use Rattle.refusals.specs.declared.Refusal.TheVariants as refusals
use Rattle.repo_api.specs.{Kinds.{created_at, kind_at, node_properties_at, or_empty, properties_at, text_at}, Properties.{PropertyList, with_property}}
use Rattle.repo_api.specs.{Dates.is_date_text, Judging.is_property_name, Readings.names_at, States.RepoState, declared.entry.NodeKind.NodeKind}
use Rattle.repo_api.specs.declared.entry.NodeKind.TheVariants as kinds
use Rattle.traces.specs.declared.place.Place.{Place}
use Rattle.history.specs.Dates.{dated_rev}
use Rattle.wire_forms.specs.Forms.{is_name}
use Rattle.commands.specs.{declared.command.GetFileCommand.GetFileCommand, declared.command.GetDirCommand.GetDirCommand}
use Rattle.reporter.specs.Refusing.{revision_read}
use Rattle.machine.specs.Answers.{failure_at}
use Rattle.wire_replies.specs.{Replies.{contents, uuid_text}, declared.entries.NodeInfo.NodeInfo, declared.reply.Reply.Reply}
use Rattle.wire_replies.specs.declared.reply.Reply.TheVariants as replies

-- ---- what is read

-- the path in the revision, if there is one
abbrev pub in_revision : PathValue → Result ℕ Refusal → Result Place Refusal
in_revision path (Ok n) = Ok (record { path = path; revision = n })
in_revision path (Err r) = Err r

-- the path in the revision that is read, or why there is none: for the path before the revision
abbrev pub place_read : RepoState → Option ℕ → Result PathValue PathFault → Result Place Refusal
place_read c revision (Ok path) = in_revision path (revision_read c revision)
place_read c revision (Err fault) = Err (path_refusal fault)

-- ---- revisions

-- the value of a property
abbrev pub value_of_property : List ℕ → PropertyList → Option (List ℕ)
value_of_property name ps = option_map (λ e. e.1) (find (λ e. is_name e.0 name) ps)

-- the value of a property of a revision
abbrev pub revision_value : RepoState → List ℕ → ℕ → Option (List ℕ)
revision_value c name n = value_of_property name (properties_at c n)

-- the date and the author of a revision
abbrev pub revision_date : RepoState → ℕ → Option (List ℕ)
revision_date c n = revision_value c (codes "svn:date") n

abbrev pub author_of : RepoState → ℕ → Option (List ℕ)
author_of c n = revision_value c (codes "svn:author") n

abbrev pub dated_reply : RepoState → List ℕ → Reply
dated_reply c date =
    if is_date_text date then replies.Revision (dated_rev c date)
    else replies.Failure refusals.NotSupported None

abbrev pub property_reply_at : RepoState → List ℕ → Result ℕ Refusal → Reply
property_reply_at c name (Ok n) =
    if is_property_name name then replies.RevisionProperty (revision_value c name n)
    else replies.Failure refusals.NotSupported None
property_reply_at c name (Err r) = replies.Failure r None

abbrev pub property_reply : RepoState → ℕ → List ℕ → Reply
property_reply c n name = property_reply_at c name (revision_read c (Some n))

-- ---- entries

-- the revision that last changed an entry, at or under it
abbrev pub changed_at : RepoState → ℕ → PathValue → ℕ
changed_at c n p = option_map_or (λ r. r) (created_at c n p) 0

-- how many bytes the text of a file has, 0 for a directory
abbrev pub size_at : RepoState → ℕ → PathValue → ℕ
size_at c n p = option_map_or length (text_at c n p) 0

abbrev pub are_any : PropertyList → Bool
are_any [] = false
are_any (p ∷ ps) = true

abbrev pub entry_properties : RepoState → ℕ → PathValue → PropertyList
entry_properties c n p = or_empty (node_properties_at c n p)

-- what is known of an entry
abbrev pub node_info : RepoState → ℕ → PathValue → NodeInfo
node_info c n p = record {
  kind = kind_at c n p;
  size = size_at c n p;
  has_properties = are_any (entry_properties c n p);
  created = changed_at c n p;
  date = revision_date c (changed_at c n p);
  author = author_of c (changed_at c n p);
}

-- the properties with this one, if it has a value
abbrev pub with_optional : List ℕ → Option (List ℕ) → PropertyList → PropertyList
with_optional name None ps = ps
with_optional name (Some value) ps = with_property ps name value

-- the properties, and four more that tell of a revision: its number, the repository, and its date
-- and its author, if it has them
abbrev pub with_revision : RepoState → ℕ → PropertyList → PropertyList
with_revision c n ps =
    with_optional (codes "svn:entry:last-author") (author_of c n)
    (with_optional (codes "svn:entry:committed-date") (revision_date c n)
    (with_property (with_property ps (codes "svn:entry:committed-rev") (decimal n))
    (codes "svn:entry:uuid") (uuid_text c.uuid)))

-- the properties that are told of an entry, where they are wanted: its own, and those of the
-- revision of its last change
abbrev pub shown_properties : RepoState → Place → Bool → PropertyList
shown_properties c at false = []
shown_properties c at true =
    with_revision c (changed_at c at.revision at.path) (entry_properties c at.revision at.path)

-- what is told of what stands at a place, if anything does
abbrev pub node_found : NodeInfo → NodeKind → Option NodeInfo
node_found node kinds.Absent = None
node_found node kinds.File = Some node
node_found node kinds.Directory = Some node

abbrev pub stat_reply : RepoState → Result Place Refusal → Reply
stat_reply c (Ok at) = replies.Stat
    (node_found (node_info c at.revision at.path) (kind_at c at.revision at.path))
stat_reply c (Err r) = replies.Failure r None

-- ---- files

-- nothing stands there, or a directory
abbrev pub no_file : NodeKind → Refusal
no_file kinds.Absent = refusals.NotFound
no_file kinds.File = refusals.NotAFile
no_file kinds.Directory = refusals.NotAFile

-- what is told of a file of this text before the text
abbrev pub file_told : RepoState → Bool → Place → List ℕ → Reply
file_told c wants_properties at text = replies.FileInfo (record {
  digest = Some (encode_lower (md5 text));
  revision = at.revision;
  properties = shown_properties c at wants_properties;
})

-- the text, where it is wanted, and that it is whole
abbrev pub text_told : Bool → List ℕ → List Reply
text_told false text = []
text_told true text = contents text ++ replies.Success ∷ []

-- what a client of today, or another, is told of the file at a place, if one stands there
abbrev pub file_at : Bool → RepoState → GetFileCommand → Place → Option (List ℕ) → List Reply
file_at is_of_today c command at (Some text) =
    file_told c command.wants_properties at text ∷ text_told command.wants_contents text
file_at is_of_today c command at None =
    failure_at is_of_today (no_file (kind_at c at.revision at.path)) (Some at.path) ∷ []

abbrev pub file_replies : Bool → RepoState → GetFileCommand → Result Place Refusal → List Reply
file_replies is_of_today c command (Ok at) =
    file_at is_of_today c command at (text_at c at.revision at.path)
file_replies is_of_today c command (Err r) = replies.Failure r None ∷ []

-- ---- directories

-- an entry of a directory, with its name
abbrev pub entry_told : RepoState → Place → Component → Component × NodeInfo
entry_told c at name = (name, node_info c at.revision (at.path ++ name ∷ []))

-- the entries of a directory by the bytes of their names, where they are wanted
abbrev pub entries_told : RepoState → Place → Bool → List (Component × NodeInfo)
entries_told c at false = []
entries_told c at true = map (entry_told c at) (names_at c at.revision at.path)

-- what is told of a directory
abbrev pub directory_told : RepoState → GetDirCommand → Place → Reply
directory_told c command at = replies.DirectoryInfo (record {
  revision = at.revision;
  properties = shown_properties c at command.wants_properties;
  entries = entries_told c at command.wants_contents;
})

-- that, or that nothing stands there, or a file, as a client of today, or another, is told
abbrev pub directory_at : Bool → RepoState → GetDirCommand → Place → NodeKind → Reply
directory_at is_of_today c command at kinds.Absent =
    failure_at is_of_today refusals.NotFound (Some at.path)
directory_at is_of_today c command at kinds.File =
    failure_at is_of_today refusals.NotADirectory (Some at.path)
directory_at is_of_today c command at kinds.Directory = directory_told c command at

abbrev pub directory_reply : Bool → RepoState → GetDirCommand → Result Place Refusal → Reply
directory_reply is_of_today c command (Ok at) =
    directory_at is_of_today c command at (kind_at c at.revision at.path)
directory_reply is_of_today c command (Err r) = replies.Failure r None
