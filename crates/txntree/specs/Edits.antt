-- What an edit makes of a tree, and what it keeps.
use Rattle.std.specs.Prelude.{◌≡◌, Result, MatchResult, IsErrOf}
use Rattle.svnpath.specs.Paths.{PathValue}
use Rattle.repo_api.specs.Trees.{Tree}
use Rattle.noderevs.specs.{Held.node_at, declared.nodes.Nodes.Nodes}
use Rattle.txntree.specs.{Bases.KeepsBased, Spots.open_tree, Spots.Spot.Opened, declared.open.OpenNode.OpenNode, declared.open.EditFault.EditFault}
use Rattle.txntree.specs.declared.open.EditFault.TheVariants.{Missing}

-- a change is applied to the tree; or, where there is an error, the tree stays as it was
abbrev pub Applies : {X T E : Type 0} → Result T E → (X → Tree) → X → X → (Tree → Tree) → Type 0
Applies result tree old new change =
    MatchResult result (λ _. (q : PathValue) → tree new q ≡ change (tree old) q)
    (λ _. (q : PathValue) → tree new q ≡ tree old q)

-- it is applied to the tree of an open node, which keeps its base, and is based where it was before
abbrev pub Edits : {T E : Type 0} → Result T E → Nodes → OpenNode → OpenNode → (Tree → Tree)
    → Type 0
Edits result ns old new change =
    Applies result (open_tree ns) old new change × (new.base ≡ old.base)
    × KeepsBased (node_at ns) (Opened old) (Opened new)

-- P, where a directory on the way is missing
abbrev pub IfMissing : {T : Type 0} → Result T EditFault → Type 0 → Type 0
IfMissing result P = IsErrOf result Missing → P
