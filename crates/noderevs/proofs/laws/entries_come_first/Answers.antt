use Rattle.noderevs.specs.Held.{node_at}
use Rattle.noderevs.proofs.Earlier.{not_beneath_itself}
use Rattle.noderevs.proofs.laws.entries_come_first.Goals as goal

pub returns-clause-apart : goal.returns-clause-apart
returns-clause-apart c = not_beneath_itself (node_at c.args._nodes.now) c.args._nodes.now.earlier
