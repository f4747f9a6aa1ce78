use Rattle.shared_revisions.proofs.Beginning.{same_at, same_trees}
use Rattle.shared_revisions.proofs.held.Held.moved.Goals as goal

pub moved_tree-requires-clause-twins : goal.moved_tree-requires-clause-twins
moved_tree-requires-clause-twins c = record {
  placed = c.args.from.now.placed;
  same = same_trees c.args.from.now c.args.self.now c.requires.begins;
}

pub moved_tree-requires-clause-same : goal.moved_tree-requires-clause-same
moved_tree-requires-clause-same c =
    same_at c.args.from.now c.args.self.now c.requires.begins c.args.base c.requires.within
