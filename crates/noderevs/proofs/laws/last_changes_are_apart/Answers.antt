use Rattle.noderevs.specs.Held.{node_at}
use Rattle.noderevs.proofs.Apart.{last_changes_apart}
use Rattle.noderevs.proofs.laws.last_changes_are_apart.Goals as goal

pub returns : goal.returns
returns c = last_changes_apart (node_at c.args._nodes.now) c.args._nodes.now.apart
