use Rattle.std.proofs.Common.{Option, subst}
use Rattle.std.specs.FinMap.{keys}
use Rattle.svnpath.specs.Paths.{PathValue}
use Rattle.flat_trees.specs.Merging.{conflict_at, Finds}
use Rattle.flat_trees.proofs.Finding.{of_transaction}
use Rattle.flat_trees.proofs.flat_tree.FlatTree.conflict.Goals as goal

pub returns-in-Some : goal.returns-in-Some
returns-in-Some c =
    subst (λ (o : Option PathValue). Finds (conflict_at c.args.base.now c.args.self.now c.args.youngest.now) (keys c.args.base.now) o) c.in-Some.is c.in_ok-of_base.ensures

pub returns-in-None : goal.returns-in-None
returns-in-None c =
    of_transaction c.args.base.now c.args.self.now c.args.youngest.now c.conflict_among-in-None.result
    (subst (λ (o : Option PathValue). Finds (conflict_at c.args.base.now c.args.self.now c.args.youngest.now) (keys c.args.base.now) o) c.in-None.is c.in_ok-of_base.ensures)
    c.conflict_among-in-None.ensures
