use Rattle.std.proofs.Common.{◌+◌, ◌-◌, ◌/◌, sym, ◌∙◌, arith}
use Rattle.shared_map.specs.Entries.{values}
use Rattle.shared_map.proofs.{Copies.value_read, Places.{past, not_yet, here}}
use Rattle.shared_map.proofs.searching.search.Goals as goal

pub returns-in-Equal-clause-around : goal.returns-in-Equal-clause-around
returns-in-Equal-clause-around g c =
    let middle = c.loop-low.low + (c.loop-low.high - c.loop-low.low) / 2 in
    let at = value_read c.args.part.now middle c.index-part-middle.result c.deref.result.now (omega (arith, c.loop-low-test.true, c.loop-low.invariant.1)) c.index-part-middle.is c.deref.ensures in
    here (values c.args.part.now) c.requires c.args.name.now middle c.deref.result.now at (sym c.cmp.ensures ∙ c.in-Equal.is)

pub loop-low-preserved-in-Greater : goal.loop-low-preserved-in-Greater
loop-low-preserved-in-Greater g c =
    let middle = c.loop-low.low + (c.loop-low.high - c.loop-low.low) / 2 in
    let at = value_read c.args.part.now middle c.index-part-middle.result c.deref.result.now (omega (arith, c.loop-low-test.true, c.loop-low.invariant.1)) c.index-part-middle.is c.deref.ensures in (
      omega (arith, c.loop-low-test.true),
      c.loop-low.invariant.1,
      record {
        above = past (values c.args.part.now) c.requires c.args.name.now middle c.deref.result.now at (sym c.cmp.ensures ∙ c.in-Greater.is);
        below = c.loop-low.invariant.2.below;
      },
    )

pub loop-low-preserved : goal.loop-low-preserved
loop-low-preserved g c =
    let middle = c.loop-low.low + (c.loop-low.high - c.loop-low.low) / 2 in
    let at = value_read c.args.part.now middle c.index-part-middle.result c.deref.result.now (omega (arith, c.loop-low-test.true, c.loop-low.invariant.1)) c.index-part-middle.is c.deref.ensures in (
      omega arith,
      omega (arith, c.loop-low-test.true, c.loop-low.invariant.1),
      record {
        above = c.loop-low.invariant.2.above;
        below = not_yet (values c.args.part.now) c.requires c.args.name.now middle c.deref.result.now at (sym c.cmp.ensures ∙ c.in-Less.is);
      },
    )
