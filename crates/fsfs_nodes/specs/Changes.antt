-- The changed paths of a revision.
use Rattle.std.specs.Prelude.{ℕ, zero, suc, ◌==◌, Bool, true, false, List, [], ◌∷◌, ◌++◌, length, codes, Option, Some, None, Result, Ok, Err, if◌then◌else◌}
use Rattle.std.specs.{List.flat_map, Cmp.Lexicographic.pointwise}
use Rattle.fsfs_text.specs.{declared.fault.FileFault.FileFault, declared.fault.FileFault.TheVariants.BadLine, Reading.or_bad, Splits.{line_at, split_once}}
use Rattle.fsfs_text.specs.{Maybe.◌>>=◌, Places.{place_text, place_of}, declared.place.Place.Place}
use Rattle.fsfs_text.specs.Reading as reading
use Rattle.fsfs_nodes.specs.{Headers.optional, declared.change.FileAction.FileAction, declared.change.FileAction.TheVariants.{Add, Delete, Replace, Modify}}
use Rattle.fsfs_nodes.specs.{declared.change.FileChange.FileChange, declared.change.ChangeLine.ChangeLine}

abbrev pub action_text : FileAction → List ℕ
action_text Add = codes "add"
action_text Delete = codes "delete"
action_text Replace = codes "replace"
action_text Modify = codes "modify"

unfoldable pub action_of : List ℕ → Option FileAction
action_of text =
    if pointwise ◌==◌ text (codes "add") then Some Add
    else if pointwise ◌==◌ text (codes "delete") then Some Delete
    else if pointwise ◌==◌ text (codes "replace") then Some Replace
    else if pointwise ◌==◌ text (codes "modify") then Some Modify
    else None

abbrev pub flag_text : Bool → List ℕ
flag_text true = codes "true"
flag_text false = codes "false"

unfoldable pub flag_of : List ℕ → Option Bool
flag_of text =
    if pointwise ◌==◌ text (codes "true") then Some true
    else if pointwise ◌==◌ text (codes "false") then Some false
    else None

-- the line of a copy source, which is empty where there is none
abbrev pub source_text : Option Place → List ℕ
source_text None = 10 ∷ []
source_text (Some place) = place_text place ++ 10 ∷ []

-- `<id> <action> `, whatever word the id is
abbrev pub what_text : FileChange → List ℕ
what_text change = change.id ++ 32 ∷ (action_text change.action ++ 32 ∷ [])

-- `<text> <properties> `
abbrev pub flags_text : FileChange → List ℕ
flags_text change = flag_text change.text ++ 32 ∷ (flag_text change.properties ++ 32 ∷ [])

-- `<id> <action> <text> <properties> <path>`, and the line of the copy source
abbrev pub change_bytes : FileChange → List ℕ
change_bytes change =
    what_text change ++ flags_text change ++ change.path ++ 10 ∷ source_text change.source

abbrev pub changes_bytes : List FileChange → List ℕ
changes_bytes changes = flat_map change_bytes changes

-- the first line of a change
pub record ChangeFront : Type 0 where
  pub id : List ℕ
  pub action : FileAction
  pub text : Bool
  pub properties : Bool
  pub path : List ℕ

-- the same that the code has read
abbrev pub change_front : ChangeLine → ChangeFront
change_front line = record {
  id = line.id.now;
  action = line.action;
  text = line.text;
  properties = line.properties;
  path = line.path.now;
}

unfoldable pub change_line : List ℕ → Option ChangeFront
change_line line = do
  (id, rest) ← split_once 32 line
  (action, rest) ← split_once 32 rest
  (text, rest) ← split_once 32 rest
  (properties, path) ← split_once 32 rest
  action ← action_of action
  text ← flag_of text
  properties ← flag_of properties
  Some (record { id = id; action = action; text = text; properties = properties; path = path })

-- the copy source that a line says
abbrev pub source_of : List ℕ → Result (Option Place) FileFault
source_of [] = Ok None
source_of (b ∷ line) = optional place_of (Some (b ∷ line))

abbrev pub change_with : ChangeFront → List ℕ → List ℕ → Option Place → FileChange
change_with front id path source = record {
  id = id;
  action = front.action;
  text = front.text;
  properties = front.properties;
  path = path;
  source = source;
}

-- the change in front, and what stands behind it
unfoldable pub change_of : List ℕ → Result (FileChange × List ℕ) FileFault
change_of bytes =
    reading.◌>>=◌ (line_at bytes) (λ first. reading.◌>>=◌ (or_bad (change_line first.0)) (λ front.
    reading.◌>>=◌ (line_at first.1) (λ second. reading.◌>>=◌ (source_of second.0) (λ source.
    Ok (change_with front front.id front.path source, second.1)))))

-- a change in front of others
abbrev pub before : FileChange → Result (List FileChange) FileFault
    → Result (List FileChange) FileFault
before change (Ok changes) = Ok (change ∷ changes)
before change (Err f) = Err f

-- nothing is left
abbrev pub ended : List ℕ → Result (List FileChange) FileFault
ended [] = Ok []
ended (b ∷ bytes) = Err BadLine

-- the changes of at most so many bytes
unfoldable pub changes_within : ℕ → List ℕ → Result (List FileChange) FileFault
changes_within zero bytes = ended bytes
changes_within (suc n) [] = Ok []
changes_within (suc n) (b ∷ bytes) =
    reading.◌>>=◌ (change_of (b ∷ bytes)) (λ p. before p.0 (changes_within n p.1))

-- the changes that the bytes say, all of them
abbrev pub changes_of : List ℕ → Result (List FileChange) FileFault
changes_of bytes = changes_within (length bytes) bytes
