-- Some walks are left, and the others have gone on.
use Rattle.std.proofs.Common.{length}
use Rattle.repo_api.specs.Histories.{history_of}
use Rattle.history.proofs.Walking.{IsGoing}
use Rattle.history.proofs.walks.Walks.heads_after.Given as goal

abbrev pub invariant-loop-head : goal.invariant-loop-head
invariant-loop-head g l =
    IsGoing (history_of (g.R.Repository.content l.repository)) l.self.strict l.self.low l.newest l.fn.heads.items l.left.items l.next.items

abbrev pub decreases-loop-head : goal.decreases-loop-head
decreases-loop-head g l = length l.left.items
