use Rattle.std.proofs.Common.{rules, ◌≡◌, true, arith}
use Rattle.std.specs.Map.Iter.{deref_pair}
use Rattle.filed_repository.proofs.Lists.{one_more, alike_at_end}
use Rattle.filed_repository.proofs.written.are_same_locks.Goals as goal

pub loop-k-preserved : goal.loop-k-preserved
loop-k-preserved c =
    let same : c.is_same_row.result ≡ true = search rules in
    one_more deref_pair c.args.locks.now c.args.others.now c.loop-k.k _ _ (search rules) (omega arith)
    c.index-locks-k.is c.index-others-k.is c.loop-k.invariant (c.is_same_row.ensures same)

pub returns : goal.returns
returns c = λ e. alike_at_end deref_pair c.args.locks.now c.args.others.now c.loop-k.k (omega arith)
    (omega arith) c.loop-k.invariant
