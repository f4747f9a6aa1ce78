use Rattle.filed_trees.specs.Comparing.{tables_of}
use Rattle.filed_trees.proofs.Remade.{tabled}
use Rattle.filed_trees.proofs.entries.placed_among.Goals as goal

pub returns-then-is_placed : goal.returns-then-is_placed
returns-then-is_placed c =
    let both = c.is_placed.ensures.0 c.if-is_placed.true in
    (tabled (tables_of c.args.places) _ c.args.id both.0 both.1, both.1)
