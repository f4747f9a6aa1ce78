-- What stands in the trees of revisions, and what an edit makes of a tree.
use Rattle.std.proofs.Common.{◌≡◌, ◌≤◌, ℕ, zero, suc, List, [], ◌∷◌, ◌++◌, length, Option, Some, None, is_some, refl, sym, ap, subst, append-nil, ◌∙◌}
use Rattle.std.proofs.lemmas.Bool.{false≢true}
use Rattle.std.specs.{FinMap.get-empty, Prelude.IsSome}
use Rattle.svnpath.specs.{Components.IsRightPath, Paths.{path_cmp, PathValue}}
use Rattle.repo_api.specs.{Edits.{edited, with_value, without_value}, Marks.HasSource, RightEdits.{HasParent, IsRightEdit}, Soundness.AreTrees}
use Rattle.repo_api.specs.{States.{Revision, trees_in}, Trees.{IsTree, text_of, Tree}, declared.edit.EditOp.EditOp}
use Rattle.repo_api.specs.declared.edit.EditOp.TheVariants.{AddDirectory, AddFile, Copy, Replace, Delete, SetProperty, RemoveProperty, SetText}
use Rattle.repo_api.specs.{declared.entry.Entry.Entry, declared.limits.TheConstants.TEXT_LIMIT}
use Rattle.repo_laws.proofs.{Copying.{IsWithinDepth, copied_tree, replaced_tree}, Keeping.{directory_tree, file_tree, deleted_tree, property_tree, text_tree}}

-- where something stands there is a tree
pub tree_where : (rs : List Revision) (n : ℕ) (p : PathValue) → AreTrees rs → IsSome (trees_in rs n p) → IsTree (trees_in rs n)
tree_where [] n p trees some = absurd (false≢true (sym (ap is_some (get-empty path_cmp p)) ∙ some))
tree_where (r ∷ rs) zero p trees some = trees.0
tree_where (r ∷ rs) (suc n) p trees some = tree_where rs n p trees.1 some

-- what stands in a revision stands at a right path
pub right_where : (rs : List Revision) (n : ℕ) (p : PathValue) → AreTrees rs → IsSome (trees_in rs n p) → IsRightPath p
right_where rs n p trees some = (tree_where rs n p trees some).right p some

text_stands : (o : Option Entry) (text : List ℕ) → text_of o ≡ Some text → IsSome o
text_stands None text h = ap is_some h
text_stands (Some e) text h = refl

-- a text of a revision keeps the limit
pub short_where : (rs : List Revision) (n : ℕ) (p : PathValue) (text : List ℕ) → AreTrees rs → text_of (trees_in rs n p) ≡ Some text → length text ≤ TEXT_LIMIT
short_where rs n p text trees h = (tree_where rs n p trees (text_stands (trees_in rs n p) text h)).short p text h

-- at a path in a directory
module _ (P : PathValue → Type 0) (t : Tree) (p : PathValue) (parent : HasParent t p) where
  in_directory : P (parent.directory ++ parent.name ∷ []) → P p
  in_directory h = subst P (sym parent.is) h

  of_entry : P p → P (parent.directory ++ parent.name ∷ [])
  of_entry h = subst P parent.is h

-- an edit that may be made of a tree makes a tree
pub edited_tree : (rs : List Revision) (t : Tree) (op : EditOp) → AreTrees rs → IsTree t → IsRightEdit (trees_in rs) t op → IsTree (edited (trees_in rs) t op)
edited_tree rs t (AddDirectory p) trees is right =
    in_directory (λ q. IsTree (edited (trees_in rs) t (AddDirectory q))) t p right.0
    (directory_tree t right.0.directory right.0.name is right.0.is_directory (of_entry IsRightPath t p right.0 right.2))
edited_tree rs t (AddFile p) trees is right =
    in_directory (λ q. IsTree (edited (trees_in rs) t (AddFile q))) t p right.0
    (file_tree t right.0.directory right.0.name is right.0.is_directory
    (of_entry (λ q. t q ≡ None) t p right.0 (ap t (sym (append-nil p)) ∙ right.1 [])) (of_entry IsRightPath t p right.0 right.2))
edited_tree rs t (Copy source p) trees is right =
    in_directory (λ q. IsTree (edited (trees_in rs) t (Copy source q))) t p right.0
    (copied_tree (trees_in rs source.revision) source.path t right.0.directory right.0.name (tree_where rs source.revision source.path trees right.2) is right.0.is_directory
    (of_entry IsRightPath t p right.0 right.3) (of_entry (IsWithinDepth (trees_in rs source.revision) source.path) t p right.0 right.4))
edited_tree rs t (Replace source p) trees is right =
    in_directory (λ q. IsTree (edited (trees_in rs) t (Replace source q))) t p right.0
    (replaced_tree (trees_in rs source.revision) source.path t right.0.directory right.0.name (tree_where rs source.revision source.path trees right.2) is right.0.is_directory
    (of_entry IsRightPath t p right.0 right.3) (of_entry (IsWithinDepth (trees_in rs source.revision) source.path) t p right.0 right.4))
edited_tree rs t (Delete p) trees is right =
    in_directory (λ q. IsTree (edited (trees_in rs) t (Delete q))) t p right.0 (deleted_tree t right.0.directory right.0.name is)
edited_tree rs t (SetProperty p name value) trees is right = property_tree t p (with_value name value) (λ e. refl) is
edited_tree rs t (RemoveProperty p name) trees is right = property_tree t p (without_value name) (λ e. refl) is
edited_tree rs t (SetText p text) trees is right = text_tree t p text is right.0 right.1

-- what an edit that may be made copies is there
pub source_there : (trees : ℕ → Tree) (t : Tree) (op : EditOp) → IsRightEdit trees t op → HasSource trees op
source_there trees t (AddDirectory p) right = tt
source_there trees t (AddFile p) right = tt
source_there trees t (Copy source p) right = right.2
source_there trees t (Replace source p) right = right.2
source_there trees t (Delete p) right = tt
source_there trees t (SetProperty p name value) right = tt
source_there trees t (RemoveProperty p name) right = tt
source_there trees t (SetText p text) right = tt
