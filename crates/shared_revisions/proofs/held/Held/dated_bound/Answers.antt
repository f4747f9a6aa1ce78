use Rattle.std.proofs.Common.{◌-◌, ◌/◌, arith, sym, ◌∙◌}
use Rattle.shared_revisions.specs.Contents.{held_state}
use Rattle.shared_revisions.proofs.Rising.{undated_above}
use Rattle.shared_revisions.proofs.held.Held.dated_bound.Goals as goal

pub loop-low-preserved-then-is_dated : goal.loop-low-preserved-then-is_dated
loop-low-preserved-then-is_dated c = (
  omega (arith, c.loop-low-test.true, c.loop-low.invariant.0),
  c.loop-low.invariant.1,
  c.loop-low.invariant.2,
)

pub loop-low-preserved : goal.loop-low-preserved
loop-low-preserved c =
    let h = c.args.self.now in
    let middle = c.loop-low.top - (c.loop-low.top - c.loop-low.low) / 2 in (
      c.loop-low.invariant.0,
      omega (arith, c.loop-low.invariant.1),
      undated_above
          (held_state h) c.args.date.now h.rising_from middle c.args.revision h.rising
          (omega (arith, c.loop-low-test.true, c.loop-low.invariant.0))
          (sym c.is_dated.ensures ∙ c.if-is_dated.false),
    )
