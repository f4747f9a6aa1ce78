use Rattle.std.proofs.Common.{◌≡◌, ◌<◌, ◌≤◌, length, sym, ap, subst, arith, rules, ◌∙◌}
use Rattle.std.specs.{FinMap.Entries.{is_sorted, put}, Prelude.{T, slice_set}}
use Rattle.shared_map.specs.Entries.{by_bytes, values, part_entries, all_entries, AreParts}
use Rattle.shared_map.proofs.{Copies.{read, within, of_some}, Places.{filled_at, part_sorted, put_in_both, are_both}}
use Rattle.shared_map.proofs.putting.put_in_two.Goals as goal

pub halves-requires-clause-sorted : goal.halves-requires-clause-sorted
halves-requires-clause-sorted g c =
    let is = read c.args.parts.now.items c.args.place c.index.result.now (within c.args.parts.now.items c.args.place _ c.requires.more) c.index.ensures in
    let shown : values c.deref-2.result.now ≡ part_entries c.index.result.now.value = ap values (c.deref-2.ensures.value ∙ ap (λ v. v.items) c.deref.ensures) in
    subst (λ es. T (is_sorted by_bytes es)) (sym shown) (part_sorted c.args.parts.now.items c.requires.parts c.args.entry.value.0 c.args.place c.index.result.now is)

pub halves-requires-clause-more : goal.halves-requires-clause-more
halves-requires-clause-more g c =
    let is = read c.args.parts.now.items c.args.place c.index.result.now (within c.args.parts.now.items c.args.place _ c.requires.more) c.index.ensures in
    let shown : values c.deref-2.result.now ≡ part_entries c.index.result.now.value = ap values (c.deref-2.ensures.value ∙ ap (λ v. v.items) c.deref.ensures) in
    subst (λ es. 1 < length es) (sym shown) (of_some _ c.index.result.now _ is c.requires.more)

pub halves-requires-clause-most : goal.halves-requires-clause-most
halves-requires-clause-most g c =
    let is = read c.args.parts.now.items c.args.place c.index.result.now (within c.args.parts.now.items c.args.place _ c.requires.more) c.index.ensures in
    let shown : values c.deref-2.result.now ≡ part_entries c.index.result.now.value = ap values (c.deref-2.ensures.value ∙ ap (λ v. v.items) c.deref.ensures) in
    subst (λ es. length es ≤ 128) (sym shown) (filled_at c.args.parts.now.items c.args.place c.index.result.now is c.requires.parts.filled).1

pub overflow_add-place : goal.overflow_add-place
overflow_add-place g c =
    let inside = within c.args.parts.now.items c.args.place _ c.requires.more in
    let ok = c.args.parts.now.ok in
    let small = c.args.parts.now.small in
    search (rules, arith, inside, ok, small)

pub insert-requires : goal.insert-requires
insert-requires g c =
    let inside = within c.args.parts.now.items c.args.place _ c.requires.more in
    let ok = c.args.parts.now.ok in
    omega (arith, inside, ok.0)

pub index_mut-requires : goal.index_mut-requires
index_mut-requires g c =
    let inside = within c.args.parts.now.items c.args.place _ c.requires.more in
    let ok = c.args.parts.now.ok in
    let more = c.in_ok-insert.ensures.len in
    omega (arith, inside, ok.0, more)

pub returns-clause-ok : goal.returns-clause-ok
returns-clause-ok g c =
    let is = read c.args.parts.now.items c.args.place c.index.result.now (within c.args.parts.now.items c.args.place _ c.requires.more) c.index.ensures in
    let shown : values c.deref-2.result.now ≡ part_entries c.index.result.now.value = ap values (c.deref-2.ensures.value ∙ ap (λ v. v.items) c.deref.ensures) in
    ap (λ xs. all_entries (slice_set xs c.args.place c.in_ok-first.first)) c.in_ok-insert.ensures.items
    ∙ put_in_both c.args.parts.now.items c.requires.parts c.args.entry.value.0 c.args.entry.value.1 c.args.place c.index.result.now is c.requires.between
    c.in_ok-first.first c.in_ok-first.second (c.in_ok-first.ensures.ok ∙ ap (put by_bytes c.args.entry.value.0 c.args.entry.value.1) shown)

pub returns-clause-parts : goal.returns-clause-parts
returns-clause-parts g c =
    let is = read c.args.parts.now.items c.args.place c.index.result.now (within c.args.parts.now.items c.args.place _ c.requires.more) c.index.ensures in
    let shown : values c.deref-2.result.now ≡ part_entries c.index.result.now.value = ap values (c.deref-2.ensures.value ∙ ap (λ v. v.items) c.deref.ensures) in
    subst (λ xs. AreParts (slice_set xs c.args.place c.in_ok-first.first)) (sym c.in_ok-insert.ensures.items)
    (are_both c.args.parts.now.items c.requires.parts c.args.entry.value.0 c.args.entry.value.1 c.args.place c.index.result.now is c.requires.between
    c.in_ok-first.first c.in_ok-first.second c.in_ok-first.ensures.filled (c.in_ok-first.ensures.ok ∙ ap (put by_bytes c.args.entry.value.0 c.args.entry.value.1) shown))
