-- A transaction's tree over further revisions.
use Rattle.std.proofs.Common.{ap, ◌∙◌}
use Rattle.std.specs.Prelude.{slice_get}
use Rattle.noderevs.specs.{Held.{blocks_of, node_at}, Nodes.{Grows, node_in}, declared.nodes.Nodes.Nodes}
use Rattle.txntree.specs.Whole.{IsLonger, TxnTreesStay}
use Rattle.txntree.proofs.{Bases.longer, Blocks.closed_is, Staying.open_trees_stay}

longer_grows : (before after : Nodes) → IsLonger before after → Grows (node_at before) (node_at after)
longer_grows before after more id there =
    ap (λ bs. node_in bs id) more.is
    ∙ longer (blocks_of before) more.more id.rev (λ b. slice_get b.nodes.items id.place) there

pub txn_trees_stay : TxnTreesStay
txn_trees_stay before after more root t sound =
    let kept = open_trees_stay (node_at before) (node_at after) (longer_grows before after more) (closed_is (node_at before) before.kids) t.root sound.based in
    (kept.0, record { base = sound.base; based = kept.1 })
