use Rattle.std.proofs.Common.{◌≡◌, ◌<◌, ℕ, get_or, Some}
use Rattle.std.specs.Borrow.{Bor}
use Rattle.svnpath.specs.Paths.{Component}
use Rattle.noderevs.specs.{Nodes.kid_of, declared.node_rev.NodeId.NodeId}
use Rattle.filed_trees.proofs.kids.are_kids_of.Given as goal

abbrev pub invariant-loop-k : goal.invariant-loop-k
invariant-loop-k l = (i : ℕ) (d : Bor (Component × NodeId)) → i < l.k → kid_of (get_or l.kids i d).now.0 l.node ≡ Some (get_or l.kids i d).now.1
