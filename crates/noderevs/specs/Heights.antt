-- How many names lie beneath a node, at most.
use Rattle.std.specs.{Prelude.{◌≡◌, ◌≤◌, ◌+◌, ◌⊎◌, ℕ, min, List, Option, Some}, List.{All, Contains}}
use Rattle.svnpath.specs.Paths.{Component}
use Rattle.noderevs.specs.{Nodes.{Look, Kids, kid_named}, declared.node_rev.NodeId.NodeId, declared.node_rev.NodeRev.NodeRev}

-- the height of a directory over an entry of this height, as far as numbers go
abbrev pub higher : ℕ → ℕ
higher height = min (height + 1) 4294967295

-- a number that is none too small for the height over each of these entries
abbrev pub IsEnough : Look → Kids → ℕ → Type 0
IsEnough look kids n =
    (name : Component) (kid : NodeId) (node : NodeRev) → kid_named kids name ≡ Some kid
    → look kid ≡ Some node → higher node.height ≤ n

-- the height of a node with these entries: the least such number, so 0 without entries
pub record IsHeight (look : Look) (kids : Kids) (height : ℕ) : Type 0 where
  pub enough : IsEnough look kids height
  pub least : (n : ℕ) → IsEnough look kids n → height ≤ n

-- each node has the height over its entries
abbrev pub AreHigh : Look → Type 0
AreHigh look = (id : NodeId) (node : NodeRev) → look id ≡ Some node → IsHeight look node.kids node.height

-- a number that is none too small for the height over each entry that is listed
abbrev pub IsEnoughOver : Look → List (Component × NodeId) → ℕ → Type 0
IsEnoughOver look es n =
    (e : Component × NodeId) (node : NodeRev) → Contains es e → look e.1 ≡ Some node
    → higher node.height ≤ n

-- the height over the entries that are listed: the least such number
pub record IsHeightOver (look : Look) (es : List (Component × NodeId)) (height : ℕ) : Type 0 where
  pub enough : IsEnoughOver look es height
  pub least : (n : ℕ) → IsEnoughOver look es n → height ≤ n

-- entries of a directory, among them each that another directory has not
pub record AreNews (kids : Kids) (old : Component → Option NodeId) (es : List (Component × NodeId)) : Type 0 where
  pub from : All (λ e. kid_named kids e.0 ≡ Some e.1) es
  pub others : (name : Component) (kid : NodeId) → kid_named kids name ≡ Some kid
      → (old name ≡ Some kid) ⊎ Contains es (name, kid)
