use Rattle.std.proofs.{Common.{rules, tests, ◌∙◌}, lemmas.Iterator.Consumers.YieldsList-from_rest, lemmas.Iterator.Search.any_from_yields_List}
use Rattle.std.specs.Map.{keys_of}
use Rattle.flat_trees.specs.Merging.{conflict_at}
use Rattle.flat_trees.proofs.Keys.{any_seen}
use Rattle.flat_trees.proofs.flat_tree.FlatTree.conflicts_among.Goals as goal

pub returns : goal.returns
returns c =
    any_from_yields_List (conflict_at c.args.base.now c.args.self.now c.args.youngest.now) _ _ c.any.result c.any.ensures.ran
    (YieldsList-from_rest (keys_of c.paths.inside.entries.entries) c.keys.ensures.rest) (λ x b q k. search (rules, tests))
    ∙ any_seen (conflict_at c.args.base.now c.args.self.now c.args.youngest.now) c.paths.inside.entries.entries c.args.paths.now c.paths.view_is
