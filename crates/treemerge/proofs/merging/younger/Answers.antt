use Rattle.std.proofs.Common.{[], sym, ◌∙◌}
use Rattle.noderevs.specs.Held.{node_at}
use Rattle.txntree.specs.Spots.{open_entry}
use Rattle.treemerge.specs.Merges.{spot_tree}
use Rattle.treemerge.proofs.Conflicts.{opened_conflict, not_one_own, own_is_open, not_one_here}
use Rattle.treemerge.proofs.merging.younger.Goals as goal

pub returns-then-not-is_same-clause-refused : goal.returns-then-not-is_same-clause-refused
returns-then-not-is_same-clause-refused c = λ none may ne.
    let look = node_at c.args.nodes.now in
    let node = c.args.node.now in
    let places = c.args.places in
    opened_conflict look c.args.nodes.now.apart node places.base places.young may.base may.young ne
    (not_one_own look places.base (open_entry node) (spot_tree look places.young [])
    (own_is_open look node places.base may.over (c.is_same.ensures.apart c.if-not-is_same.true)))

pub returns-then-not-is_one-clause-refused : goal.returns-then-not-is_one-clause-refused
returns-then-not-is_one-clause-refused c = λ none may ne.
    let look = node_at c.args.nodes.now in
    let node = c.args.node.now in
    let places = c.args.places in
    opened_conflict look c.args.nodes.now.apart node places.base places.young may.base may.young ne
    (not_one_here look node places.base places.young c.in_ok-was.was'.now c.in_ok-theirs.theirs.now
    (sym c.in_ok-was.ensures) (sym c.in_ok-theirs.ensures) (sym c.is_one.ensures ∙ c.if-not-is_one.true))

pub returns-clause-kept : goal.returns-clause-kept
returns-clause-kept c = record {
  was = c.in_ok-was.was'.now;
  old = sym c.in_ok-was.ensures;
  now = sym c.in_ok-theirs.ensures;
  one = sym c.is_one.ensures ∙ c.if-not-is_one.false;
  same = c.is_same.ensures.same c.if-not-is_same.false;
}
