-- What the values of this crate stand for.
use Rattle.std.proofs.Math.Logic.{∥∥₁_elim, ∥∥₁_map}
use Rattle.repo_api.specs.{States.{RepoState, TreeMap, TxnState}, Trees.Tree}
use Rattle.txntree.specs.Whole.{txn_tree}
use Rattle.shared_revisions.specs.{Contents.state_of, Maps.{Mapped, one_map}}
use Rattle.world.specs.{Open.txn_of, declared.world.World.World, declared.world_txn.WorldTxn.WorldTxn}

abbrev pub world_content : World → RepoState
world_content w = state_of w.held.value w.locks.value

-- the one map of a tree that has one
abbrev pub the_map : (t : Tree) → ∥ Mapped t ∥₁ → Mapped t
the_map t mapped = ∥∥₁_elim mapped (one_map t) (λ m. m)

-- what stands at each path of a transaction
abbrev pub txn_map : WorldTxn → TreeMap
txn_map t = (the_map (txn_tree t.over.value.nodes t.tree) (∥∥₁_map t.sound (λ o. (o.map, o.is)))).0

abbrev pub txn_state_of : WorldTxn → TxnState
txn_state_of t = txn_of t.shown.value t.base (txn_map t) t.changes
