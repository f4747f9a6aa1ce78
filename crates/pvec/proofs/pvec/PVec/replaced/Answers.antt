use Rattle.std.proofs.Common.{◌≡◌, ◌<◌, ◌-◌, ◌*◌, length, sym, ap, subst, arith, ◌∙◌}
use Rattle.std.specs.{List.flat_map, Prelude.slice_set}
use Rattle.pvec.specs.Parts.{values, leaf_items, branch_items, items_of}
use Rattle.pvec.proofs.Counted.{in_branches, in_leaves, counted, within, set_first, set_second, set_third}
use Rattle.pvec.proofs.pvec.PVec.replaced.Goals as goal

pub overflow_mul-in_full : goal.overflow_mul-in_full
overflow_mul-in_full g c =
    let inside = c.self.inside in
    let all = within inside.branches.value.items inside.leaves.value.items inside.tail.value.items c.self.invariant in
    let first : length c.as_slice-branches.result.now ≡ length inside.branches.value.items = ap length (c.as_slice-branches.ensures.value ∙ ap (λ v. v.items) c.deref.ensures) in
    omega (arith, all, first)

pub replaced_in_branches-requires-clause-there : goal.replaced_in_branches-requires-clause-there
replaced_in_branches-requires-clause-there g c =
    let inside = c.self.inside in
    let is = c.as_slice-branches.ensures.value ∙ ap (λ v. v.items) c.deref.ensures in
    let first : length c.as_slice-branches.result.now ≡ length inside.branches.value.items = ap length is in
    let size : length (flat_map branch_items (values c.as_slice-branches.result.now)) ≡ length (flat_map branch_items (values inside.branches.value.items)) =
    ap (λ xs. length (flat_map branch_items (values xs))) is in
    let all = in_branches inside.branches.value.items inside.leaves.value.items inside.tail.value.items c.self.invariant in
    let here = c.if-place-in_full.true in
    omega (arith, all, first, size, here)

pub returns-then-place-in_full : goal.returns-then-place-in_full
returns-then-place-in_full g c =
    let inside = c.self.inside in
    let is = c.as_slice-branches.ensures.value ∙ ap (λ v. v.items) c.deref.ensures in
    let first : length c.as_slice-branches.result.now ≡ length inside.branches.value.items = ap length is in
    let here = c.if-place-in_full.true in
    ap (λ v. items_of v.items c.in_ok-try_clone.field-0.value.items c.in_ok-try_clone-2.field-0.value.items) c.in_ok-new.ensures.ok
    ∙ ap (λ v. items_of c.in_ok-branches.branches.items v.items c.in_ok-try_clone-2.field-0.value.items) c.in_ok-try_clone.ensures
    ∙ ap (λ v. items_of c.in_ok-branches.branches.items inside.leaves.value.items v.items) c.in_ok-try_clone-2.ensures
    ∙ set_first inside.branches.value.items inside.leaves.value.items inside.tail.value.items c.self.invariant c.args.place c.args.item.value (values c.in_ok-branches.branches.items)
    (omega (arith, first, here))
    (c.in_ok-branches.ensures.items ∙ ap (λ xs. slice_set (flat_map branch_items (values xs)) c.args.place c.args.item.value) is)
    ∙ ap (λ l. slice_set l c.args.place c.args.item.value) c.self.view_is

pub overflow_mul-in_full-2 : goal.overflow_mul-in_full-2
overflow_mul-in_full-2 g c =
    let inside = c.self.inside in
    let all = within inside.branches.value.items inside.leaves.value.items inside.tail.value.items c.self.invariant in
    let second : length c.as_slice-leaves.result.now ≡ length inside.leaves.value.items = ap length (c.as_slice-leaves.ensures.value ∙ ap (λ v. v.items) c.deref-2.ensures) in
    omega (arith, all, second)

pub replaced_in_leaves-requires-clause-there : goal.replaced_in_leaves-requires-clause-there
replaced_in_leaves-requires-clause-there g c =
    let inside = c.self.inside in
    let is = c.as_slice-leaves.ensures.value ∙ ap (λ v. v.items) c.deref-2.ensures in
    let second : length c.as_slice-leaves.result.now ≡ length inside.leaves.value.items = ap length is in
    let size : length (flat_map leaf_items (values c.as_slice-leaves.result.now)) ≡ length (flat_map leaf_items (values inside.leaves.value.items)) =
    ap (λ xs. length (flat_map leaf_items (values xs))) is in
    let all = in_leaves inside.branches.value.items inside.leaves.value.items inside.tail.value.items c.self.invariant in
    let here = c.if-behind-in_full.true in
    omega (arith, all, second, size, here)

pub returns-then-behind-in_full : goal.returns-then-behind-in_full
returns-then-behind-in_full g c =
    let inside = c.self.inside in
    let first : length c.as_slice-branches.result.now ≡ length inside.branches.value.items = ap length (c.as_slice-branches.ensures.value ∙ ap (λ v. v.items) c.deref.ensures) in
    let is = c.as_slice-leaves.ensures.value ∙ ap (λ v. v.items) c.deref-2.ensures in
    let second : length c.as_slice-leaves.result.now ≡ length inside.leaves.value.items = ap length is in
    let past = c.if-place-in_full.false in
    let here = c.if-behind-in_full.true in
    let j = c.args.place - length c.as_slice-branches.result.now * 4096 in
    ap (λ v. items_of v.items c.in_ok-new-2.field-0.value.items c.in_ok-try_clone-4.field-0.value.items) c.in_ok-try_clone-3.ensures
    ∙ ap (λ v. items_of inside.branches.value.items v.items c.in_ok-try_clone-4.field-0.value.items) c.in_ok-new-2.ensures.ok
    ∙ ap (λ v. items_of inside.branches.value.items c.in_ok-leaves.leaves.items v.items) c.in_ok-try_clone-4.ensures
    ∙ set_second inside.branches.value.items inside.leaves.value.items inside.tail.value.items c.self.invariant c.args.place j c.args.item.value (values c.in_ok-leaves.leaves.items)
    (omega (arith, first, past)) (omega (arith, second, here))
    (c.in_ok-leaves.ensures.items ∙ ap (λ xs. slice_set (flat_map leaf_items (values xs)) j c.args.item.value) is)
    ∙ ap (λ l. slice_set l c.args.place c.args.item.value) c.self.view_is

pub replaced-requires : goal.replaced-requires
replaced-requires g c =
    let inside = c.self.inside in
    let first : length c.as_slice-branches.result.now ≡ length inside.branches.value.items = ap length (c.as_slice-branches.ensures.value ∙ ap (λ v. v.items) c.deref.ensures) in
    let second : length c.as_slice-leaves.result.now ≡ length inside.leaves.value.items = ap length (c.as_slice-leaves.ensures.value ∙ ap (λ v. v.items) c.deref-2.ensures) in
    let third : length c.deref-4.result.now ≡ length inside.tail.value.items = ap length (c.deref-4.ensures.value ∙ ap (λ v. v.items) c.deref-3.ensures) in
    let all = counted inside.branches.value.items inside.leaves.value.items inside.tail.value.items c.self.invariant in
    let there : c.args.place < length (items_of inside.branches.value.items inside.leaves.value.items inside.tail.value.items) =
    subst (λ l. c.args.place < length l) (sym c.self.view_is) c.requires in
    let past = c.if-place-in_full.false in
    let more = c.if-behind-in_full.false in
    omega (arith, all, there, first, second, third, past, more)

pub returns : goal.returns
returns g c =
    let inside = c.self.inside in
    let first : length c.as_slice-branches.result.now ≡ length inside.branches.value.items = ap length (c.as_slice-branches.ensures.value ∙ ap (λ v. v.items) c.deref.ensures) in
    let second : length c.as_slice-leaves.result.now ≡ length inside.leaves.value.items = ap length (c.as_slice-leaves.ensures.value ∙ ap (λ v. v.items) c.deref-2.ensures) in
    let is = c.deref-4.ensures.value ∙ ap (λ v. v.items) c.deref-3.ensures in
    let past = c.if-place-in_full.false in
    let more = c.if-behind-in_full.false in
    let j = c.args.place - length c.as_slice-branches.result.now * 4096 in
    let k = c.args.place - length c.as_slice-branches.result.now * 4096 - length c.as_slice-leaves.result.now * 64 in
    ap (λ v. items_of v.items c.in_ok-try_clone-6.field-0.value.items c.in_ok-new-3.field-0.value.items) c.in_ok-try_clone-5.ensures
    ∙ ap (λ v. items_of inside.branches.value.items v.items c.in_ok-new-3.field-0.value.items) c.in_ok-try_clone-6.ensures
    ∙ ap (λ v. items_of inside.branches.value.items inside.leaves.value.items v.items) c.in_ok-new-3.ensures.ok
    ∙ set_third inside.branches.value.items inside.leaves.value.items inside.tail.value.items c.self.invariant c.args.place j k c.args.item.value (values c.in_ok-tail.tail.items)
    (omega (arith, first, past)) (omega (arith, second, more))
    (c.in_ok-tail.ensures ∙ ap (λ xs. slice_set (values xs) k c.args.item.value) is)
    ∙ ap (λ l. slice_set l c.args.place c.args.item.value) c.self.view_is
