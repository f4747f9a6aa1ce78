use Rattle.std.proofs.Common.{sym}
use Rattle.noderevs.specs.Held.{node_at}
use Rattle.noderevs.proofs.Empty.{nothing_at, missing_at}
use Rattle.noderevs.proofs.nodes.Nodes.kids.Goals as goal

pub returns-in_default : goal.returns-in_default
returns-in_default c =
    nothing_at (node_at c.args.self.now) c.new.result c.args.directory c.new.ensures c.in_default.is

pub returns-in-None : goal.returns-in-None
returns-in-None c =
    missing_at (node_at c.args.self.now) c.new-in-None.result c.args.directory c.in-Some.id c.new-in-None.ensures
    c.in-Some.is (sym c.in-None.ensures)
