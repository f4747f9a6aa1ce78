-- Which edits may be made of a tree.
use Rattle.std.specs.Prelude.{◌≡◌, ◌≤◌, ℕ, [], ◌∷◌, ◌++◌, length, None, IsSome}
use Rattle.svnpath.specs.{Components.IsRightPath, Paths.{Component, PathValue}, declared.component.TheConstants.DEPTH_LIMIT}
use Rattle.repo_api.specs.{Trees.{Tree, HasDirectory, HasFile}, declared.limits.TheConstants.TEXT_LIMIT, declared.change.Source.Source}
use Rattle.repo_api.specs.declared.edit.EditOp.{EditOp}
use Rattle.repo_api.specs.declared.edit.EditOp.TheVariants.{AddDirectory, AddFile, Copy, Replace, Delete, SetProperty, RemoveProperty, SetText}

-- a path beneath a directory of the tree
pub record HasParent (t : Tree) (p : PathValue) : Type 0 where
  pub directory : PathValue
  pub is_directory : HasDirectory t directory
  pub name : Component
  pub is : p ≡ directory ++ name ∷ []

-- nothing stands at the path or beneath it
abbrev pub IsVacant : Tree → PathValue → Type 0
IsVacant t p = (rest : PathValue) → t (p ++ rest) ≡ None

-- what is copied is there
abbrev pub IsThere : (ℕ → Tree) → Source → Type 0
IsThere trees source = IsSome (trees source.revision source.path)

-- a copy to the path makes no path that is too deep
abbrev pub HasRoom : (ℕ → Tree) → Source → PathValue → Type 0
HasRoom trees source p =
    (rest : PathValue) → IsSome (trees source.revision (source.path ++ rest))
    → length (p ++ rest) ≤ DEPTH_LIMIT

-- what is added goes into a directory, to where nothing stands; a copy is of something that is
-- there; what is replaced, deleted or set is there, a text at a file, and neither of the first two
-- at the root; each path that comes to stand is a right one, and a text keeps the limit
abbrev pub IsRightEdit : (ℕ → Tree) → Tree → EditOp → Type 0
IsRightEdit trees t (AddDirectory p) = HasParent t p × IsVacant t p × IsRightPath p
IsRightEdit trees t (AddFile p) = HasParent t p × IsVacant t p × IsRightPath p
IsRightEdit trees t (Copy source p) =
    HasParent t p × IsVacant t p × IsThere trees source × IsRightPath p × HasRoom trees source p
IsRightEdit trees t (Replace source p) =
    HasParent t p × IsSome (t p) × IsThere trees source × IsRightPath p × HasRoom trees source p
IsRightEdit trees t (Delete p) = HasParent t p × IsSome (t p)
IsRightEdit trees t (SetProperty p name value) = IsSome (t p)
IsRightEdit trees t (RemoveProperty p name) = IsSome (t p)
IsRightEdit trees t (SetText p text) = HasFile t p × length text ≤ TEXT_LIMIT
