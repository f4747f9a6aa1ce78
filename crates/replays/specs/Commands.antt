-- The commands of one entry of an edit.
use Rattle.std.specs.Prelude.{ℕ, ◌-◌, Bool, true, false, not, ◌||◌, List, [], ◌∷◌, ◌++◌, length, map, Option, Some, None, option_map, codes, decimal}
use Rattle.std.specs.Prelude.{if◌then◌else◌}
use Rattle.hex.specs.Hex.{encode_lower}
use Rattle.md5.specs.Md5.{md5}
use Rattle.svnpath.specs.{Paths.PathValue, Texts.path_text}
use Rattle.svndiff0.specs.Document.{header}
use Rattle.repo_api.specs.{Kinds.{node_properties_at, or_empty, text_at}, Properties.PropertyList, States.RepoState}
use Rattle.traces.specs.declared.place.Place.{Place}
use Rattle.file_histories.specs.Differing.{differing}
use Rattle.wire_forms.specs.Forms.{is_name}
use Rattle.text_deltas.specs.Deltas.{delta_chunks}
use Rattle.wire_deltas.specs.Texts.{text_commands, text_or_empty}
use Rattle.wire_replies.specs.Replies.{bare_text}
use Rattle.wire_edits.specs.{declared.editing.AddedEntry.AddedEntry, declared.editing.EditorCommand.EditorCommand, declared.editing.OpenedEntry.OpenedEntry}
use Rattle.wire_edits.specs.declared.editing.EditorCommand.TheVariants.{DeleteEntry, AddDirectory, AddFile, OpenDirectory, OpenFile, ChangeDirectoryProperty}
use Rattle.wire_edits.specs.declared.editing.EditorCommand.TheVariants.{ChangeFileProperty, CloseDirectory, CloseFile}
use Rattle.replays.specs.declared.ask.ReplayAsk.{ReplayAsk}

abbrev pub is_empty : {A : Type 0} → List A → Bool
is_empty [] = true
is_empty (x ∷ xs) = false

-- the token of an entry that is so many names beneath the root: `d2` of a directory, `c2` of a file
abbrev pub token_of : Bool → ℕ → List ℕ
token_of true count = codes "d" ++ decimal count
token_of false count = codes "c" ++ decimal count

-- the token of the directory that an entry is in
abbrev pub parent_token : PathValue → List ℕ
parent_token q = token_of true (length q - 1)

-- ---- deletes, opens and adds

abbrev pub delete_command : PathValue → EditorCommand
delete_command q =
    DeleteEntry (record { path = bare_text q; parent = parent_token q; revision = None })

abbrev pub opened_entry : Bool → PathValue → OpenedEntry
opened_entry directory q = record {
  path = bare_text q;
  parent = parent_token q;
  token = token_of directory (length q);
  revision = None;
}

abbrev pub open_command : Bool → PathValue → EditorCommand
open_command true q = OpenDirectory (opened_entry true q)
open_command false q = OpenFile (opened_entry false q)

-- an entry is added, as a copy where it has a source
abbrev pub added_entry : Bool → PathValue → Option Place → AddedEntry
added_entry directory q source = record {
  path = bare_text q;
  parent = parent_token q;
  token = token_of directory (length q);
  source = option_map (λ (at : Place). (path_text at.path, at.revision)) source;
}

abbrev pub add_command : Bool → PathValue → Option Place → EditorCommand
add_command true q source = AddDirectory (added_entry true q source)
add_command false q source = AddFile (added_entry false q source)

-- ---- properties

-- the properties of what is at a place, if there is one
abbrev pub properties_there : RepoState → Option Place → PropertyList
properties_there c None = []
properties_there c (Some at) = or_empty (node_properties_at c at.revision at.path)

-- the changes of properties as they are sent: without values one that has no name stands for all
abbrev pub changes_sent : Bool → List (List ℕ × Option (List ℕ)) → List (List ℕ × Option (List ℕ))
changes_sent sends [] = []
changes_sent true (change ∷ changes) = change ∷ changes
changes_sent false (change ∷ changes) = ([], None) ∷ []

-- a property of what is open under a token has a value now, or is taken out
abbrev pub property_command : Bool → List ℕ → List ℕ × Option (List ℕ) → EditorCommand
property_command true token change =
    ChangeDirectoryProperty (record { token = token; name = change.0; value = change.1 })
property_command false token change =
    ChangeFileProperty (record { token = token; name = change.0; value = change.1 })

-- ---- texts

-- the text of what is at a place, of no bytes where there is none
abbrev pub text_there : RepoState → Option Place → List ℕ
text_there c None = []
text_there c (Some at) = text_or_empty (text_at c at.revision at.path)

-- a text is told where the list says so, or it is another than the one before
abbrev pub told_if_other : Bool → List ℕ → Option (List ℕ) → Option (List ℕ)
told_if_other listed before None = None
told_if_other listed before (Some text) =
    if listed || not (is_name before text) then Some text else None

-- a text that is told: by a delta over the text before, or by the header of one alone
abbrev pub file_text_commands : Bool → List ℕ → List ℕ → List ℕ → List EditorCommand
file_text_commands true token before text = text_commands token (delta_chunks before text)
file_text_commands false token before text = text_commands token (header ∷ [])

abbrev pub text_told_commands : Bool → List ℕ → List ℕ → Option (List ℕ) → List EditorCommand
text_told_commands sends token before None = []
text_told_commands sends token before (Some text) = file_text_commands sends token before text

-- ---- all that is told of an entry itself

-- what differs of an entry from what the client has of it: its properties, and then its text
abbrev pub own_commands : RepoState → ReplayAsk → Bool → Bool → Option Place → Place
    → List EditorCommand
own_commands c ask directory listed base at =
    let token = token_of directory (length at.path) in
    let before = text_there c base in
    map (property_command directory token)
    (changes_sent ask.sends_deltas
    (differing (properties_there c base) (properties_there c (Some at))))
    ++ text_told_commands ask.sends_deltas token before
    (told_if_other listed before (text_at c at.revision at.path))

-- a file is closed with the digits of its text
abbrev pub close_command : RepoState → Bool → Place → EditorCommand
close_command c true at = CloseDirectory (token_of true (length at.path))
close_command c false at =
    CloseFile (token_of false (length at.path))
    (Some (encode_lower (md5 (text_there c (Some at)))))
