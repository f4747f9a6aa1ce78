-- What stands beneath a path.
use Rattle.std.specs.{Prelude.{◌≡◌, ◌<◌, ◌++◌, ℕ, List, [], Option, Some, None, length}, FinMap.keys}
use Rattle.svnpath.specs.Paths.{Component, PathValue}
use Rattle.repo_api.specs.Trees.{Tree}
use Rattle.noderevs.specs.declared.node_rev.NodeRev.{NodeRev}

-- nothing stands more than so many names beneath a path
abbrev pub IsShallow : Tree → PathValue → ℕ → Type 0
IsShallow t path names = (rest : PathValue) → names < length rest → t (path ++ rest) ≡ None

-- the names of a directory's entries, by their bytes
abbrev pub kid_names : Option NodeRev → List Component
kid_names None = []
kid_names (Some node) = keys node.kids
