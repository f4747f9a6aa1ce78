use Rattle.shared_revisions.specs.{Committing.next_map, Contents.state_of}
use Rattle.world.specs.Whole.{txn_map, txn_state_of}
use Rattle.world.proofs.Limits.{under_limit}
use Rattle.world.proofs.committing.with_commit.Goals as goal

pub with_tree-requires-clause-mapped : goal.with_tree-requires-clause-mapped
with_tree-requires-clause-mapped c =
    ∣ (next_map c.args.held.now c.args.txn.now.base (txn_map c.args.txn.now), c.in_ok-tree.ensures.tree) ∣₁

pub with_tree-requires-clause-room : goal.with_tree-requires-clause-room
with_tree-requires-clause-room c =
    under_limit (state_of c.args.held.now c.args.locks.now) c.args.ask.now (txn_state_of c.args.txn.now)
    c.in_ok-tree.ensures.judged.0
