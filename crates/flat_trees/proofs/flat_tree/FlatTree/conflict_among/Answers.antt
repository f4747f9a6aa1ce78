use Rattle.std.specs.{FinMap.keys, Prelude.option_copied}
use Rattle.flat_trees.specs.Merging.{conflict_at}
use Rattle.flat_trees.proofs.Finding.{finds_copy}
use Rattle.flat_trees.proofs.flat_tree.FlatTree.conflict_among.Goals as goal

pub returns : goal.returns
returns c =
    finds_copy (conflict_at c.args.base.now c.args.self.now c.args.youngest.now) (keys c.args.paths.now) (option_copied c.found_among.result) c.copy_of.result
    c.found_among.ensures c.copy_of.ensures
