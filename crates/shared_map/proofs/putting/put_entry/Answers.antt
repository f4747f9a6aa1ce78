use Rattle.std.proofs.{Common.{◌≡◌, ◌<◌, length, ap, arith, rules, ◌∙◌}, lemmas.List.length-map}
use Rattle.shared_map.specs.Entries.{part_entries}
use Rattle.shared_map.proofs.Copies.{read, to_some}
use Rattle.shared_map.proofs.putting.put_entry.Goals as goal

pub put_in_two-requires-clause-more : goal.put_in_two-requires-clause-more
put_in_two-requires-clause-more g c =
    let inside : c.home-place.result < length c.args.parts.now.items = search (rules, arith) in
    let a = c.index.result.now in
    let is = read c.args.parts.now.items c.home-place.result a inside c.index.ensures in
    let count : c.len.result ≡ a.value.len = c.len.ensures ∙ ap (λ v. v.len) c.deref-3.ensures in
    let same : length (part_entries a.value) ≡ length a.value.items = length-map a.value.items (λ e. e.value) in
    let ok = a.value.ok in
    let long = c.if-len-limit_among.false in
    let least = c.limit_among.ensures.least in
    to_some _ a _ is (omega (arith, count, same, ok.0, long, least))
