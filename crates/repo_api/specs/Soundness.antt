-- Revisions whose trees are sound.
use Rattle.std.specs.Prelude.{List, [], ◌∷◌}
use Rattle.repo_api.specs.{Trees.IsTree, Marks.AreMarked, States.{Revision, tree_of, trees_in}}

-- each revision's tree is a tree
abbrev pub AreTrees : List Revision → Type 0
AreTrees [] = Unit {0}
AreTrees (r ∷ rs) = IsTree (tree_of r.tree) × AreTrees rs

-- each revision's tree is a tree, and its marks name what they mark
abbrev pub AreSound : List Revision → Type 0
AreSound rs = AreTrees rs × AreMarked (trees_in rs)
