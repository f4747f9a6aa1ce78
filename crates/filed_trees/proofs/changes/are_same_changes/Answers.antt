use Rattle.std.proofs.Common.{rules, ◌≡◌, true, arith, refl}
use Rattle.filed_trees.proofs.Lists.{same_at_end, same_more}
use Rattle.filed_trees.proofs.changes.are_same_changes.Goals as goal

pub loop-k-preserved : goal.loop-k-preserved
loop-k-preserved c =
    let same : c.is_same_row.result ≡ true = search rules in
    same_more c.args.changes.now c.args.others.now c.loop-k.k _ _ (search rules) (omega arith) c.index-changes-k.is c.index-others-k.is
    c.loop-k.invariant (c.is_same_row.ensures.0 same)

pub returns : goal.returns
returns c = (
  λ e. same_at_end c.args.changes.now c.args.others.now c.loop-k.k (omega arith) (omega arith) c.loop-k.invariant,
  λ e. refl,
)
