use Rattle.std.proofs.Common.{rules, ◌≡◌, ap, ◌∙◌}
use Rattle.noderevs.specs.Nodes.{kid_named}
use Rattle.filed_trees.proofs.{Entering.put_named, Kept.if_ok}
use Rattle.std.specs.FinMap.{insert}
use Rattle.filed_trees.proofs.entries.put_kid.Goals as goal

pub returns : goal.returns
returns c =
    let kids = c.args.kids.now in
    let key : c.in_ok-clone.field-0 ≡ c.args.name.now = search rules in
    if_ok c.put.result c.put.ensures.ok (λ x is n.
    ap (λ m. kid_named m n) is ∙ ap (λ k. kid_named (insert kids k c.args.id) n) key
    ∙ put_named kids c.args.name.now c.args.id n)
