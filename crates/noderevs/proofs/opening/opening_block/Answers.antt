use Rattle.std.proofs.Common.{◌∷◌, [], ◌++◌, refl, ap, ◌∙◌}
use Rattle.noderevs.proofs.opening.opening_block.Goals as goal

pub returns : goal.returns
returns c =
    let node = c.in_ok-opening_node.field-0 in
    record {
      node = node;
      nodes = c.in_ok-push.ensures.items ∙ ap (λ ns. ns ++ node ∷ []) c.new-nodes.ensures.items;
      root = refl;
      is = c.in_ok-opening_node.ensures;
    }
