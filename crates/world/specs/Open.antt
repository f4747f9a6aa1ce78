-- A transaction by its parts.
use Rattle.std.specs.Prelude.{◌≡◌, ℕ, length, take}
use Rattle.repo_api.specs.States.{ChangeMap, TreeMap, TxnState}
use Rattle.history_marks.specs.Sound.{IsSoundTxn}
use Rattle.txntree.specs.{Whole.txn_tree, declared.tree.TxnTree.TxnTree}
use Rattle.shared_revisions.specs.{Contents.revisions_of, Maps.IsMapOf, declared.held.Held.Held}

-- with this base, tree and changes, and what it was last shown
abbrev pub txn_of : Held → ℕ → TreeMap → ChangeMap → TxnState
txn_of shown base tree changes =
    record { shown = revisions_of shown; base = base; tree = tree; changes = changes }

-- the revisions of the one begin those of the other
abbrev pub Begins : Held → Held → Type 0
Begins over shown = take (length (revisions_of over)) (revisions_of shown) ≡ revisions_of over

-- its tree over these nodes has a map, and with that it is sound
pub record IsOpen (over shown : Held) (base : ℕ) (tree : TxnTree) (changes : ChangeMap) : Type 0 where
  pub map : TreeMap
  pub is : IsMapOf (txn_tree over.nodes tree) map
  pub sound : IsSoundTxn (txn_of shown base map changes)
