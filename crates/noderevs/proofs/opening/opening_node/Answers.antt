use Rattle.std.proofs.Common.{rules}
use Rattle.noderevs.proofs.Empty.{none_named}
use Rattle.noderevs.proofs.opening.opening_node.Goals as goal

pub returns : goal.returns
returns c = record {
  entry = search rules;
  height = search rules;
  kids = none_named c.new-4.result c.new-4.ensures;
}
