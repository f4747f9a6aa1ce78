use Rattle.std.proofs.{Common.{◌≡◌, ◌<◌, ◌+◌, take, drop, length, sym, ap, subst, arith, rules, ◌∙◌}, lemmas.List.length-map}
use Rattle.std.specs.{FinMap.Entries.is_sorted, Prelude.{T, slice_get, IsSomeAnd}, declared.cmp.Ordering.TheVariants.Equal}
use Rattle.shared_map.specs.Entries.{by_bytes, values, part_entries, all_entries, AreParts, IsBetween}
use Rattle.shared_map.proofs.{Copies.{read, within, same_some, ok_then, err_then, both_then}, Places.{part_sorted, filled_at, none_there, not_there, one_gone}}
use Rattle.shared_map.proofs.Places.{last_gone, part_gone, are_fewer, are_kept, are_without, without_in_parts, same_in_parts}
use Rattle.shared_map.proofs.removing.remove_entry.Goals as goal

pub search-requires : goal.search-requires
search-requires g c =
    let inside : c.home-place.result < length c.args.parts.now.items = search (rules, arith) in
    let a = c.index.result.now in
    let is = read c.args.parts.now.items c.home-place.result a inside c.index.ensures in
    let shown : values c.deref-3.result.now ≡ part_entries a.value = ap values (c.deref-3.ensures.value ∙ ap (λ v. v.items) c.deref-2.ensures) in
    subst (λ es. T (is_sorted by_bytes es)) (sym shown) (part_sorted c.args.parts.now.items c.requires c.args.name.now c.home-place.result a is)

pub returns-in_default-clause-ok : goal.returns-in_default-clause-ok
returns-in_default-clause-ok g c =
    let inside : c.home-place.result < length c.args.parts.now.items = search (rules, arith) in
    let a = c.index.result.now in
    let is = read c.args.parts.now.items c.home-place.result a inside c.index.ensures in
    let shown : values c.deref-3.result.now ≡ part_entries a.value = ap values (c.deref-3.ensures.value ∙ ap (λ v. v.items) c.deref-2.ensures) in
    let between = subst (λ ps. IsBetween c.args.name.now (all_entries (take c.home-place.result ps)) (all_entries (drop (c.home-place.result + 1) ps))) c.deref.ensures.value c.home-place.ensures.between in
    not_there c.args.parts.now.items c.requires c.args.name.now c.home-place.result a is between
    (none_there (part_entries a.value) c.args.name.now c.in_default.field-0
    (subst (λ es. IsBetween c.args.name.now (take c.in_default.field-0 es) (drop c.in_default.field-0 es)) shown c.in_default.ensures.absent))

pub returns-then-len-eq1-clause-ok : goal.returns-then-len-eq1-clause-ok
returns-then-len-eq1-clause-ok g c =
    let inside : c.home-place.result < length c.args.parts.now.items = search (rules, arith) in
    let a = c.index.result.now in
    let is = read c.args.parts.now.items c.home-place.result a inside c.index.ensures in
    let b = c.index-2.result.now in
    let same : a ≡ b = same_some a b (sym is ∙ read c.args.parts.now.items c.home-place.result b inside c.index-2.ensures) in
    let shown : values c.deref-3.result.now ≡ part_entries a.value = ap values (c.deref-3.ensures.value ∙ ap (λ v. v.items) c.deref-2.ensures) in
    let between = subst (λ ps. IsBetween c.args.name.now (all_entries (take c.home-place.result ps)) (all_entries (drop (c.home-place.result + 1) ps))) c.deref.ensures.value c.home-place.ensures.between in
    let found = subst (λ es. IsSomeAnd (slice_get es c.in-Ok.at) (λ e. by_bytes c.args.name.now e.0 ≡ Equal)) shown c.in-Ok.ensures.found in
    let around = subst (λ es. IsBetween c.args.name.now (take c.in-Ok.at es) (drop (c.in-Ok.at + 1) es)) shown c.in-Ok.ensures.around in
    let count : c.len.result ≡ b.value.len = c.len.ensures ∙ ap (λ v. v.len) c.deref-4.ensures in
    let size : length (part_entries a.value) ≡ length b.value.items = ap (λ x. length (part_entries x.value)) same ∙ length-map b.value.items (λ e. e.value) in
    let ok = b.value.ok in
    let one = c.if-len-eq1.true in
    ap all_entries c.remove.ensures.items
    ∙ part_gone c.args.parts.now.items c.requires c.args.name.now c.home-place.result a is between
    (one_gone (part_entries a.value) c.args.name.now c.in-Ok.at found around
    ∙ last_gone (part_entries a.value) c.in-Ok.at (within (part_entries a.value) c.in-Ok.at _ found) (omega (arith, count, size, ok.0, one)))

pub returns-then-len-eq1-clause-parts : goal.returns-then-len-eq1-clause-parts
returns-then-len-eq1-clause-parts g c =
    let inside : c.home-place.result < length c.args.parts.now.items = search (rules, arith) in
    let a = c.index.result.now in
    let is = read c.args.parts.now.items c.home-place.result a inside c.index.ensures in
    let b = c.index-2.result.now in
    let same : a ≡ b = same_some a b (sym is ∙ read c.args.parts.now.items c.home-place.result b inside c.index-2.ensures) in
    let shown : values c.deref-3.result.now ≡ part_entries a.value = ap values (c.deref-3.ensures.value ∙ ap (λ v. v.items) c.deref-2.ensures) in
    let between = subst (λ ps. IsBetween c.args.name.now (all_entries (take c.home-place.result ps)) (all_entries (drop (c.home-place.result + 1) ps))) c.deref.ensures.value c.home-place.ensures.between in
    let found = subst (λ es. IsSomeAnd (slice_get es c.in-Ok.at) (λ e. by_bytes c.args.name.now e.0 ≡ Equal)) shown c.in-Ok.ensures.found in
    let around = subst (λ es. IsBetween c.args.name.now (take c.in-Ok.at es) (drop (c.in-Ok.at + 1) es)) shown c.in-Ok.ensures.around in
    let count : c.len.result ≡ b.value.len = c.len.ensures ∙ ap (λ v. v.len) c.deref-4.ensures in
    let size : length (part_entries a.value) ≡ length b.value.items = ap (λ x. length (part_entries x.value)) same ∙ length-map b.value.items (λ e. e.value) in
    let ok = b.value.ok in
    let one = c.if-len-eq1.true in
    subst AreParts (sym c.remove.ensures.items)
    (are_fewer c.args.parts.now.items c.requires c.args.name.now c.home-place.result a is between
    (one_gone (part_entries a.value) c.args.name.now c.in-Ok.at found around
    ∙ last_gone (part_entries a.value) c.in-Ok.at (within (part_entries a.value) c.in-Ok.at _ found) (omega (arith, count, size, ok.0, one))))

pub remove_at-requires : goal.remove_at-requires
remove_at-requires g c =
    let inside : c.home-place.result < length c.args.parts.now.items = search (rules, arith) in
    let a = c.index.result.now in
    let is = read c.args.parts.now.items c.home-place.result a inside c.index.ensures in
    let b = c.index_mut.result.now in
    let same : a ≡ b = same_some a b (sym is ∙ read c.args.parts.now.items c.home-place.result b inside c.index_mut.ensures.value) in
    let shown : values c.deref-3.result.now ≡ part_entries b.value = ap values (c.deref-3.ensures.value ∙ ap (λ v. v.items) c.deref-2.ensures) ∙ ap (λ x. part_entries x.value) same in
    let found = subst (λ es. IsSomeAnd (slice_get es c.in-Ok.at) (λ e. by_bytes c.args.name.now e.0 ≡ Equal)) shown c.in-Ok.ensures.found in
    within (part_entries b.value) c.in-Ok.at _ found

pub returns-clause-ok : goal.returns-clause-ok
returns-clause-ok g c =
    let inside : c.home-place.result < length c.args.parts.now.items = search (rules, arith) in
    let a = c.index.result.now in
    let is = read c.args.parts.now.items c.home-place.result a inside c.index.ensures in
    let b = c.index_mut.result.now in
    let there = read c.args.parts.now.items c.home-place.result b inside c.index_mut.ensures.value in
    let same : a ≡ b = same_some a b (sym is ∙ there) in
    let shown : values c.deref-3.result.now ≡ part_entries b.value = ap values (c.deref-3.ensures.value ∙ ap (λ v. v.items) c.deref-2.ensures) ∙ ap (λ x. part_entries x.value) same in
    let between = subst (λ ps. IsBetween c.args.name.now (all_entries (take c.home-place.result ps)) (all_entries (drop (c.home-place.result + 1) ps))) c.deref.ensures.value c.home-place.ensures.between in
    let found = subst (λ es. IsSomeAnd (slice_get es c.in-Ok.at) (λ e. by_bytes c.args.name.now e.0 ≡ Equal)) shown c.in-Ok.ensures.found in
    let around = subst (λ es. IsBetween c.args.name.now (take c.in-Ok.at es) (drop (c.in-Ok.at + 1) es)) shown c.in-Ok.ensures.around in
    ok_then c.remove_at.result _ _
    (λ new. without_in_parts c.args.parts.now.items c.requires c.args.name.now c.home-place.result b there c.remove_at.new.part between
    (new ∙ sym (one_gone (part_entries b.value) c.args.name.now c.in-Ok.at found around)))
    c.remove_at.ensures.ok

pub returns-clause-err : goal.returns-clause-err
returns-clause-err g c =
    let inside : c.home-place.result < length c.args.parts.now.items = search (rules, arith) in
    let b = c.index_mut.result.now in
    let there = read c.args.parts.now.items c.home-place.result b inside c.index_mut.ensures.value in
    err_then c.remove_at.result _ _
    (λ new. same_in_parts c.args.parts.now.items c.requires c.args.name.now c.home-place.result b there c.remove_at.new.part new)
    c.remove_at.ensures.err

pub returns-clause-parts : goal.returns-clause-parts
returns-clause-parts g c =
    let inside : c.home-place.result < length c.args.parts.now.items = search (rules, arith) in
    let a = c.index.result.now in
    let is = read c.args.parts.now.items c.home-place.result a inside c.index.ensures in
    let b = c.index_mut.result.now in
    let there = read c.args.parts.now.items c.home-place.result b inside c.index_mut.ensures.value in
    let same : a ≡ b = same_some a b (sym is ∙ there) in
    let d = c.index-2.result.now in
    let other : d ≡ b = same_some d b (sym (read c.args.parts.now.items c.home-place.result d inside c.index-2.ensures) ∙ there) in
    let shown : values c.deref-3.result.now ≡ part_entries b.value = ap values (c.deref-3.ensures.value ∙ ap (λ v. v.items) c.deref-2.ensures) ∙ ap (λ x. part_entries x.value) same in
    let between = subst (λ ps. IsBetween c.args.name.now (all_entries (take c.home-place.result ps)) (all_entries (drop (c.home-place.result + 1) ps))) c.deref.ensures.value c.home-place.ensures.between in
    let found = subst (λ es. IsSomeAnd (slice_get es c.in-Ok.at) (λ e. by_bytes c.args.name.now e.0 ≡ Equal)) shown c.in-Ok.ensures.found in
    let around = subst (λ es. IsBetween c.args.name.now (take c.in-Ok.at es) (drop (c.in-Ok.at + 1) es)) shown c.in-Ok.ensures.around in
    let gone = one_gone (part_entries b.value) c.args.name.now c.in-Ok.at found around in
    let count : c.len.result ≡ b.value.len = c.len.ensures ∙ ap (λ v. v.len) c.deref-4.ensures ∙ ap (λ x. x.value.len) other in
    let size : length (part_entries b.value) ≡ length b.value.items = length-map b.value.items (λ e. e.value) in
    let ok = b.value.ok in
    let not_one = c.if-len-eq1.false in
    let some = (filled_at c.args.parts.now.items c.home-place.result b there c.requires.filled).0 in
    both_then c.remove_at.result _ _ _
    (λ new. are_without c.args.parts.now.items c.requires c.args.name.now c.home-place.result b there c.remove_at.new.part c.in-Ok.at between (new ∙ sym gone) gone
    (within (part_entries b.value) c.in-Ok.at _ found) (omega (arith, count, size, ok.0, not_one, some)))
    (λ new. are_kept c.args.parts.now.items c.requires c.args.name.now c.home-place.result b there c.remove_at.new.part new)
    c.remove_at.ensures.ok c.remove_at.ensures.err
