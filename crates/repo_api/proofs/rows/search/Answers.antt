use Rattle.std.proofs.Common.{◌+◌, ◌-◌, ◌/◌, sym, ap, ◌∙◌, arith}
use Rattle.std.specs.{Cmp.Lexicographic.slice_cmp, Ordering.nat_cmp}
use Rattle.repo_api.proofs.Ordered.{read, past, not_yet, here}
use Rattle.repo_api.proofs.rows.search.Goals as goal

pub returns-in-Equal-clause-around : goal.returns-in-Equal-clause-around
returns-in-Equal-clause-around c =
    let middle = c.loop-low.low + (c.loop-low.high - c.loop-low.low) / 2 in
    let row = c.index-rows-middle.result in
    let at = read c.args.rows.now middle row (omega (arith, c.loop-low-test.true, c.loop-low.invariant.1)) c.index-rows-middle.is in
    here c.args.rows.now c.requires c.args.name.now middle row at (ap (λ r. slice_cmp nat_cmp c.args.name.now r.0) c.index-rows-middle.is ∙ sym c.cmp.ensures ∙ c.in-Equal.is)

pub loop-low-preserved-in-Greater : goal.loop-low-preserved-in-Greater
loop-low-preserved-in-Greater c =
    let middle = c.loop-low.low + (c.loop-low.high - c.loop-low.low) / 2 in
    let row = c.index-rows-middle.result in
    let at = read c.args.rows.now middle row (omega (arith, c.loop-low-test.true, c.loop-low.invariant.1)) c.index-rows-middle.is in (
      omega (arith, c.loop-low-test.true),
      c.loop-low.invariant.1,
      record {
        above = past c.args.rows.now c.requires c.args.name.now middle row at (ap (λ r. slice_cmp nat_cmp c.args.name.now r.0) c.index-rows-middle.is ∙ sym c.cmp.ensures ∙ c.in-Greater.is);
        below = c.loop-low.invariant.2.below;
      },
    )

pub loop-low-preserved : goal.loop-low-preserved
loop-low-preserved c =
    let middle = c.loop-low.low + (c.loop-low.high - c.loop-low.low) / 2 in
    let row = c.index-rows-middle.result in
    let at = read c.args.rows.now middle row (omega (arith, c.loop-low-test.true, c.loop-low.invariant.1)) c.index-rows-middle.is in (
      omega arith,
      omega (arith, c.loop-low-test.true, c.loop-low.invariant.1),
      record {
        above = c.loop-low.invariant.2.above;
        below = not_yet c.args.rows.now c.requires c.args.name.now middle row at (ap (λ r. slice_cmp nat_cmp c.args.name.now r.0) c.index-rows-middle.is ∙ sym c.cmp.ensures ∙ c.in-Less.is);
      },
    )
