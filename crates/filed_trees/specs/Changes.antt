-- The changes of a revision, by its file.
use Rattle.std.specs.{Prelude.{ℕ, List, [], ◌∷◌, ◌++◌, Option, Some, None, option_map, slice_get}, BTreeMap.insert_entry, Result.result_ok}
use Rattle.svnpath.specs.{Paths.{path_cmp, PathValue}, Texts.parsed}
use Rattle.repo_api.specs.{declared.change.Action.Action, declared.change.Change.Change, declared.change.Source.Source}
use Rattle.repo_api.specs.declared.change.Action.TheVariants as actions
use Rattle.revision_data.specs.Found.{found}
use Rattle.fsfs_text.specs.{Maybe.◌>>=◌, declared.place.Place.Place}
use Rattle.fsfs_nodes.specs.{declared.change.FileAction.FileAction, declared.change.FileAction.TheVariants.{Add, Delete, Replace, Modify}}
use Rattle.fsfs_nodes.specs.declared.change.FileChange.{FileChange}
use Rattle.fsfs.specs.{Pieces.revision_of, declared.piece.FilePiece.FilePiece}
use Rattle.filed_trees.specs.Pieces.{RevisionBytes}

abbrev pub action_in : FileAction → Action
action_in Add = actions.Add
action_in Delete = actions.Delete
action_in Replace = actions.Replace
action_in Modify = actions.Modify

-- the source of a copy, if there is one
abbrev pub source_in : Option Place → Option (Option Source)
source_in None = Some None
source_in (Some place) =
    option_map (λ path. Some (record { revision = place.revision; path = path }))
    (result_ok (parsed place.path))

-- a changed path, and its change
unfoldable pub change_in : FileChange → Option (PathValue × Change)
change_in change = do
  path ← result_ok (parsed change.path)
  source ← source_in change.source
  Some (
    path,
    record {
      action = action_in change.action;
      text = change.text;
      properties = change.properties;
      source = source;
    },
  )

-- changes with their paths, in the order of these
abbrev pub ChangeRows : Type 0
ChangeRows = List (PathValue × Change)

-- a path is changed once
abbrev pub with_new : ChangeRows → PathValue × Change → Option Change → Option ChangeRows
with_new rows p None = Some (insert_entry path_cmp rows p.0 p.1)
with_new rows p (Some change) = None

abbrev pub with_change : ChangeRows → PathValue × Change → Option ChangeRows
with_change rows p = with_new rows p (found rows p.0)

abbrev pub with_changes : ChangeRows → List FileChange → Option ChangeRows
with_changes rows [] = Some rows
with_changes rows (c ∷ cs) =
    change_in c >>= λ p. with_change rows p >>= λ more. with_changes more cs

-- the changes that lines say, in whatever order they stand
abbrev pub changes_by : List FileChange → Option ChangeRows
changes_by cs = with_changes [] cs

-- the changes that lines say, as they stand, after others
abbrev pub with_lines : ChangeRows → List FileChange → Option ChangeRows
with_lines rows [] = Some rows
with_lines rows (c ∷ cs) = change_in c >>= λ p. with_lines (rows ++ p ∷ []) cs

-- changes one after another, each put in its place
abbrev pub with_rows : ChangeRows → ChangeRows → Option ChangeRows
with_rows rows [] = Some rows
with_rows rows (p ∷ ps) = with_change rows p >>= λ more. with_rows more ps

-- what the file of a revision says: its node revisions and its changed paths
unfoldable pub revision_in : RevisionBytes → ℕ → Option (List FilePiece × List FileChange)
revision_in files n = do
  file ← slice_get files n
  result_ok (revision_of n file)

-- the changes of a revision; there are none of a number that is none
unfoldable pub changes_in : RevisionBytes → ℕ → Option ChangeRows
changes_in files n = revision_in files n >>= λ revision. changes_by revision.1
