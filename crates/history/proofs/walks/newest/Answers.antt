use Rattle.std.proofs.Common.{◌∙◌, sym, ap, arith, max}
use Rattle.history.specs.Walks.{above_head}
use Rattle.history.proofs.Walking.{newest_more}
use Rattle.history.proofs.walks.newest.Goals as goal

pub loop-head-preserved : goal.loop-head-preserved
loop-head-preserved c =
    c.max_head-newest.ensures
    ∙ ap (λ k. max k (above_head c.head-item.result)) c.loop-head.invariant
    ∙ sym (newest_more c.args.heads.now c.loop-head.head-index c.head-item.result (omega arith) c.head-item.is)
