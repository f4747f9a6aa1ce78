use Rattle.std.proofs.{Common.{◌≡◌, ◌<◌, ◌+◌, Some, take, drop, length, sym, ap, subst, arith, rules, ◌∙◌}, lemmas.List.length-map}
use Rattle.std.specs.{FinMap.Entries.is_sorted, Prelude.{T, slice_get, IsSomeAnd}, declared.cmp.Ordering.TheVariants.Equal}
use Rattle.shared_map.specs.Entries.{by_bytes, values, part_entries, IsBetween}
use Rattle.shared_map.proofs.{Copies.{read, value_read, within, of_some}, Places.{part_sorted, found_in, one_found, none_found}}
use Rattle.shared_map.proofs.searching.find.Goals as goal

pub search-requires : goal.search-requires
search-requires g c =
    let inside : c.home.result < length c.args.parts.now = search (rules, arith) in
    let a = c.index-parts-home.result in
    let is = read c.args.parts.now c.home.result a inside c.index-parts-home.is in
    let shown : values c.deref.result.now ≡ part_entries a.value = ap values (c.deref.ensures.value ∙ ap (λ v. v.items) c.deref-part.ensures) in
    subst (λ es. T (is_sorted by_bytes es)) (sym shown) (part_sorted c.args.parts.now c.requires c.args.name.now c.home.result a is)

pub index-requires : goal.index-requires
index-requires g c =
    let inside = within (values c.deref.result.now) c.in-Ok.place _ c.in-Ok.ensures.found in
    let same : length (values c.deref.result.now) ≡ length c.deref-part.result.now.items = ap (λ xs. length (values xs)) c.deref.ensures.value ∙ length-map c.deref-part.result.now.items (λ e. e.value) in
    let ok = c.deref-part.result.now.ok in
    omega (arith, inside, same, ok.0)

pub returns-in-Ok : goal.returns-in-Ok
returns-in-Ok g c =
    let inside : c.home.result < length c.args.parts.now = search (rules, arith) in
    let a = c.index-parts-home.result in
    let is = read c.args.parts.now c.home.result a inside c.index-parts-home.is in
    let shown : values c.deref.result.now ≡ part_entries a.value = ap values (c.deref.ensures.value ∙ ap (λ v. v.items) c.deref-part.ensures) in
    let same : part_entries c.deref-part.result.now ≡ part_entries a.value = ap part_entries c.deref-part.ensures in
    let found = subst (λ es. IsSomeAnd (slice_get es c.in-Ok.place) (λ e. by_bytes c.args.name.now e.0 ≡ Equal)) shown c.in-Ok.ensures.found in
    let around = subst (λ es. IsBetween c.args.name.now (take c.in-Ok.place es) (drop (c.in-Ok.place + 1) es)) shown c.in-Ok.ensures.around in
    let short = within (part_entries a.value) c.in-Ok.place _ found in
    let at : slice_get (part_entries a.value) c.in-Ok.place ≡ Some c.deref-in-Ok.result.now =
    sym (ap (λ es. slice_get es c.in-Ok.place) same)
    ∙ value_read c.deref-part.result.now.items c.in-Ok.place c.index.result.now c.deref-in-Ok.result.now (subst (λ es. c.in-Ok.place < length es) (sym same) short) c.index.ensures c.deref-in-Ok.ensures in
    sym (one_found (part_entries a.value) c.args.name.now c.in-Ok.place c.deref-in-Ok.result.now at (of_some _ c.deref-in-Ok.result.now _ at found) around)
    ∙ found_in c.args.parts.now c.requires c.args.name.now c.home.result a is c.home.ensures.between

pub returns-in-Err : goal.returns-in-Err
returns-in-Err g c =
    let inside : c.home.result < length c.args.parts.now = search (rules, arith) in
    let a = c.index-parts-home.result in
    let is = read c.args.parts.now c.home.result a inside c.index-parts-home.is in
    let shown : values c.deref.result.now ≡ part_entries a.value = ap values (c.deref.ensures.value ∙ ap (λ v. v.items) c.deref-part.ensures) in
    sym (none_found (part_entries a.value) c.args.name.now c.in-Err.field-0
    (subst (λ es. IsBetween c.args.name.now (take c.in-Err.field-0 es) (drop c.in-Err.field-0 es)) shown c.in-Err.ensures.absent))
    ∙ found_in c.args.parts.now c.requires c.args.name.now c.home.result a is c.home.ensures.between
