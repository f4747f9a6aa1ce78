-- Edits of a tree.
use Rattle.std.specs.Prelude.{Result}
use Rattle.repo_api.specs.{Edits.edited, States.{TreeMap, trees_in}, declared.edit.EditOp.EditOp}
use Rattle.flat_trees.specs.Changing.{Applies}
use Rattle.flat_commits.specs.{Contents.revisions_of, declared.flat_content.FlatContent.FlatContent}

-- an edit is applied to the tree, over the trees of the revisions; or, where there is an error, the tree stays as it was
abbrev pub EditsTree : {T E : Type 0} → Result T E → FlatContent → TreeMap → EditOp → TreeMap
    → Type 0
EditsTree result c old op new =
    Applies result old new (λ t. edited (trees_in (revisions_of c)) t op)
