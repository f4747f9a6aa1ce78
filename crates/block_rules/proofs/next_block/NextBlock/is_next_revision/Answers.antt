use Rattle.block_rules.proofs.News.{decided}
use Rattle.block_rules.proofs.next_block.NextBlock.is_next_revision.Goals as goal

pub returns : goal.returns
returns c =
    let root = c.has_right_root.ensures.0 c.if-not-has_right_root.false in
    decided c.are_marked.result _ _
    (λ marked. record {
      nodes = c.in_ok-are_right_nodes.ensures.0 c.if-not-branch.false;
      here = root.0;
      root = root.1;
      marked = marked;
    })
    (λ right. right.marked)
    c.are_marked.ensures
