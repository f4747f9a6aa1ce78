use Rattle.std.proofs.{Common.{rules, ◌≡◌, true, false, refl, sym, ◌∙◌, arith}, lemmas.Bool.false≢true}
use Rattle.std.specs.Map.Iter.{deref_pair}
use Rattle.block_rules.proofs.Lists.{both_more, both_at_end, same_at}
use Rattle.block_rules.proofs.own.are_same_rows.Goals as goal

pub loop-k-preserved : goal.loop-k-preserved
loop-k-preserved c =
    let same : c.is_same_row.result ≡ true = search rules in
    both_more deref_pair c.args.rows.now c.args.others.now c.loop-k.k _ _ (search rules) (omega arith) c.index-rows-k.is c.index-others-k.is
    c.loop-k.invariant (c.is_same_row.ensures.0 same)

pub returns : goal.returns
returns c = (
  λ e. both_at_end deref_pair c.args.rows.now c.args.others.now c.loop-k.k (omega arith) (omega arith) c.loop-k.invariant,
  λ same. refl,
)

pub returns-then-not-is_same_row : goal.returns-then-not-is_same_row
returns-then-not-is_same_row c = (
  λ e. absurd (false≢true e),
  λ same.
      let differs : c.is_same_row.result ≡ false = search rules in
      sym differs ∙ c.is_same_row.ensures.1
      (same_at deref_pair c.args.rows.now c.args.others.now c.loop-k.k _ _ (search rules) (omega arith) c.index-rows-k.is c.index-others-k.is same),
)
