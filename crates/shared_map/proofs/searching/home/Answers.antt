use Rattle.std.proofs.Common.{◌≡◌, ◌+◌, ◌-◌, ◌/◌, drop, sym, ap, subst, ◌∙◌, arith}
use Rattle.shared_map.specs.Entries.{values, part_entries, all_entries, is_before, by_bytes}
use Rattle.shared_map.proofs.{Copies.read, Maps.total, Ordered.Below, Places.{home_low, home_high}}
use Rattle.shared_map.proofs.searching.home.Goals as goal

pub loop-low-preserved-then-is_before : goal.loop-low-preserved-then-is_before
loop-low-preserved-then-is_before g c =
    let parts = c.args.parts.now in
    let name = c.args.name.now in
    let middle = c.loop-low.high - (c.loop-low.high - c.loop-low.low) / 2 in
    let a = c.index-parts-middle.result in
    let is = read parts middle a (omega (arith, c.loop-low-test.true, c.loop-low.invariant.1)) c.index-parts-middle.is in
    let same : is_before name (values c.deref-in-loop-low.result.now) ≡ is_before name (part_entries a.value) = ap (λ xs. is_before name (values xs)) (c.deref-in-loop-low.ensures.value ∙ ap (λ v. v.items) c.deref.ensures) in
    let next : middle ≡ middle - 1 + 1 = omega (arith, c.loop-low-test.true) in (
      omega (arith, c.loop-low-test.true),
      omega (arith, c.loop-low-test.true, c.loop-low.invariant.1),
      record {
        above = c.loop-low.invariant.2.above;
        below = subst (λ n. Below by_bytes total name (all_entries (drop n parts))) next
            (home_high parts c.requires name middle a is (sym same ∙ sym c.is_before.ensures ∙ c.if-is_before.true));
      },
    )

pub loop-low-preserved : goal.loop-low-preserved
loop-low-preserved g c =
    let parts = c.args.parts.now in
    let name = c.args.name.now in
    let middle = c.loop-low.high - (c.loop-low.high - c.loop-low.low) / 2 in
    let a = c.index-parts-middle.result in
    let is = read parts middle a (omega (arith, c.loop-low-test.true, c.loop-low.invariant.1)) c.index-parts-middle.is in
    let same : is_before name (values c.deref-in-loop-low.result.now) ≡ is_before name (part_entries a.value) = ap (λ xs. is_before name (values xs)) (c.deref-in-loop-low.ensures.value ∙ ap (λ v. v.items) c.deref.ensures) in (
      omega arith,
      c.loop-low.invariant.1,
      record {
        above = home_low parts c.requires name middle a is (sym same ∙ sym c.is_before.ensures ∙ c.if-is_before.false);
        below = c.loop-low.invariant.2.below;
      },
    )
