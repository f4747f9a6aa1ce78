use Rattle.std.proofs.Common.{take}
use Rattle.std.specs.List.{All}
use Rattle.repo_api.specs.Histories.{Changed}
use Rattle.block_rules.specs.{Rules.{IsMarked, past_of}, Ways.IsWay}
use Rattle.block_rules.proofs.next_block.NextBlock.are_marked_on.Given as goal

abbrev pub invariant-loop-change : goal.invariant-loop-change
invariant-loop-change l =
    IsWay l.self l.way
    × All (λ (e : Changed). IsMarked (past_of l.self.nodes.now) l.self.block.now e.0) (take l.change-index l.self.changes.now)
