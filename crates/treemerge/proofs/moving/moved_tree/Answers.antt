use Rattle.std.proofs.Common.{sym, subst, ◌∙◌}
use Rattle.treemerge.specs.Moves.{IsTwin}
use Rattle.treemerge.proofs.Twins.{root_twin}
use Rattle.treemerge.proofs.moving.moved_tree.Goals as goal

pub returns-clause-tree : goal.returns-clause-tree
returns-clause-tree c =
    let txn = c.args.txn.now in
    let is = subst (IsTwin c.args.from.now c.args.to.now txn.root.base) (sym c.root.ensures) (root_twin c.args.from.now c.args.to.now c.args.base txn.root.base c.requires.sound.base c.requires.same) in
    (c.in_ok-root.ensures.moved c.requires.twins c.requires.sound.based is).tree

pub returns-clause-sound : goal.returns-clause-sound
returns-clause-sound c =
    let txn = c.args.txn.now in
    let is = subst (IsTwin c.args.from.now c.args.to.now txn.root.base) (sym c.root.ensures) (root_twin c.args.from.now c.args.to.now c.args.base txn.root.base c.requires.sound.base c.requires.same) in
    record {
      base = c.in_ok-root.ensures.base ∙ c.root.ensures;
      based = (c.in_ok-root.ensures.moved c.requires.twins c.requires.sound.based is).based;
    }
