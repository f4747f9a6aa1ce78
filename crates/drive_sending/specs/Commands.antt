-- The commands of a plan.
use Rattle.std.specs.Prelude.{◌≡◌, ◌+◌, ◌-◌, ℕ, Bool, true, false, List, [], ◌∷◌, ◌++◌, map, Option, Some, None, option_map, if◌then◌else◌}
use Rattle.hex.specs.Hex.{encode_lower}
use Rattle.md5.specs.Md5.{md5}
use Rattle.svnpath.specs.Paths.{PathValue, same_path}
use Rattle.text_deltas.specs.Deltas.{delta_chunks}
use Rattle.repo_api.specs.{States.RepoState, Trees.text_of}
use Rattle.wire_edits.specs.{declared.editing.AddedEntry.AddedEntry, declared.editing.DeletedEntry.DeletedEntry, declared.editing.EditorCommand.EditorCommand}
use Rattle.wire_edits.specs.declared.editing.EditorCommand.TheVariants.{DeleteEntry, AddDirectory, AddFile, OpenDirectory, OpenFile, ChangeDirectoryProperty}
use Rattle.wire_edits.specs.declared.editing.EditorCommand.TheVariants.{ChangeFileProperty, CloseDirectory, CloseFile}
use Rattle.wire_edits.specs.declared.editing.OpenedEntry.{OpenedEntry}
use Rattle.drive_rules.specs.{Steps.EntryKind, Steps.EntryKind.{DirectoryKind, FileKind}}
use Rattle.drive_visits.specs.{Own.Change, Visits.{kind_if, Visit}, Visits.Visit.{Open, Add, Delete, Close}}
use Rattle.reporter.specs.{Targets.{WholeReport, client_tree, new_tree, old_tree}, declared.ask.Purpose.Purpose}
use Rattle.reporter.specs.{declared.ask.Purpose.TheVariants.{Update, Switch, Status, Diff, Summary}, Sent.{framed, or_no_text}}
use Rattle.drive_news.specs.{News.{news_at, old_entry}, declared.news.News.News}
use Rattle.wire_deltas.specs.Texts.{text_commands}
use Rattle.drive_sending.specs.Tokens.{token_of, relative_text}

-- ---- what is told of an entry

-- a property of what is open under a token has a value now, or is taken out
abbrev pub property_command : EntryKind → List ℕ → Change → EditorCommand
property_command DirectoryKind token change =
    ChangeDirectoryProperty (record { token = token; name = change.0; value = change.1 })
property_command FileKind token change =
    ChangeFileProperty (record { token = token; name = change.0; value = change.1 })

-- a text, if it is sent: as a delta that leads to it from the text that the client has
abbrev pub sent_commands : List ℕ → List ℕ → Option (List ℕ) → List EditorCommand
sent_commands token base None = []
sent_commands token base (Some text) = text_commands token (delta_chunks base text)

-- the MD5 of a text, as digits
abbrev pub digits_of : List ℕ → List ℕ
digits_of text = encode_lower (md5 text)

-- a file is closed with the digits of the text that was sent; a status and a summary send no texts
abbrev pub checksum_sent : Purpose → Option (List ℕ) → Option (List ℕ)
checksum_sent Update text = option_map digits_of text
checksum_sent Switch text = option_map digits_of text
checksum_sent Status text = None
checksum_sent Diff text = option_map digits_of text
checksum_sent Summary text = None

-- what is told of an entry that was entered under a token, over the text that the client has; a
-- file is closed at once
abbrev pub news_commands : Purpose → EntryKind → List ℕ → List ℕ → News → List EditorCommand
news_commands purpose DirectoryKind token base news =
    map (property_command DirectoryKind token) news.changes
news_commands purpose FileKind token base news =
    map (property_command FileKind token) news.changes
    ++ (sent_commands token base news.text
    ++ CloseFile token (checksum_sent purpose news.text) ∷ [])

-- the news, or none
abbrev pub or_no_news : Option News → News
or_no_news None = record { changes = []; text = None }
or_no_news (Some news) = news

-- the news of what the client is to have at a path
abbrev pub news_told : RepoState → WholeReport → PathValue → Bool → News
news_told c report p anew = or_no_news (option_map (news_at c report p anew) (new_tree c report p))

-- the text that the client has at a path, of no bytes where the entry comes anew
abbrev pub text_had : RepoState → WholeReport → PathValue → Bool → List ℕ
text_had c report p anew = or_no_text (text_of (old_entry anew (old_tree c report) p))

-- over the one text the news are what they are over the other: it is the same, or no text is sent
abbrev pub IsSentOver : News → List ℕ → List ℕ → Type 0
IsSentOver news base other = (text : List ℕ) → news.text ≡ Some text → base ≡ other

-- ---- visits

abbrev pub open_command : EntryKind → OpenedEntry → EditorCommand
open_command DirectoryKind e = OpenDirectory e
open_command FileKind e = OpenFile e

abbrev pub add_command : EntryKind → AddedEntry → EditorCommand
add_command DirectoryKind e = AddDirectory e
add_command FileKind e = AddFile e

-- the revision that the client has of an entry
abbrev pub reported_revision : RepoState → WholeReport → PathValue → Option ℕ
reported_revision c report p = option_map (λ h. h.revision) (client_tree c report p)

-- an entry that is opened while so many directories are open around the innermost one
abbrev pub opened_entry : RepoState → WholeReport → ℕ → PathValue → EntryKind → OpenedEntry
opened_entry c report around p kind = record {
  path = relative_text p;
  parent = token_of DirectoryKind around;
  token = token_of kind (around + 1);
  revision = reported_revision c report p;
}

-- an entry that is added
abbrev pub added_entry : ℕ → PathValue → EntryKind → AddedEntry
added_entry around p kind = record {
  path = relative_text p;
  parent = token_of DirectoryKind around;
  token = token_of kind (around + 1);
  source = None;
}

-- an entry that is deleted
abbrev pub deleted_entry : ℕ → PathValue → DeletedEntry
deleted_entry around p = record {
  path = relative_text p;
  parent = token_of DirectoryKind around;
  revision = None;
}

-- the commands of a visit, while so many directories are open around the innermost one
abbrev pub visit_commands : RepoState → WholeReport → ℕ → Visit → List EditorCommand
visit_commands c report around (Open p directory) =
    let kind = kind_if directory in
    open_command kind (opened_entry c report around p kind)
    ∷ news_commands report.ask.purpose kind (token_of kind (around + 1))
    (text_had c report p false) (news_told c report p false)
visit_commands c report around (Add p directory) =
    let kind = kind_if directory in
    add_command kind (added_entry around p kind)
    ∷ news_commands report.ask.purpose kind (token_of kind (around + 1))
    (text_had c report p true) (news_told c report p true)
visit_commands c report around (Delete p) = DeleteEntry (deleted_entry around p) ∷ []
visit_commands c report around Close = CloseDirectory (token_of DirectoryKind around) ∷ []

-- a directory stays open, and a file does not
abbrev pub deeper_by : EntryKind → ℕ → ℕ
deeper_by DirectoryKind around = around + 1
deeper_by FileKind around = around

-- how many directories are open around the innermost one after a visit
abbrev pub around_after : ℕ → Visit → ℕ
around_after around (Open p directory) = deeper_by (kind_if directory) around
around_after around (Add p directory) = deeper_by (kind_if directory) around
around_after around (Delete p) = around
around_after around Close = around - 1

-- the commands of all visits, in their order
abbrev pub plan_commands : RepoState → WholeReport → ℕ → List Visit → List EditorCommand
plan_commands c report around [] = []
plan_commands c report around (v ∷ vs) =
    visit_commands c report around v
    ++ plan_commands c report (around_after around v) vs

-- ---- the drive

-- the root is told its news where it is one of the paths that the drive is of
abbrev pub root_commands : RepoState → WholeReport → List EditorCommand
root_commands c report =
    if same_path report.ask.target []
    then news_commands report.ask.purpose DirectoryKind (token_of DirectoryKind 0)
    [] (news_told c report [] false)
    else []

-- the commands of a plan, from the open root on to its close
abbrev pub body_commands : RepoState → WholeReport → List Visit → List EditorCommand
body_commands c report visits =
    root_commands c report
    ++ (plan_commands c report 0 visits ++ CloseDirectory (token_of DirectoryKind 0) ∷ [])

-- the drive of a plan
abbrev pub drive_of : RepoState → WholeReport → List Visit → List EditorCommand
drive_of c report visits = framed report (token_of DirectoryKind 0) (body_commands c report visits)
