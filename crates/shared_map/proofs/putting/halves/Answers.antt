use Rattle.std.proofs.{Common.{◌≡◌, length, ap, arith, ◌∙◌}, lemmas.List.length-map}
use Rattle.std.specs.FinMap.Entries.{put}
use Rattle.shared_map.specs.Entries.{by_bytes, values, part_entries}
use Rattle.shared_map.proofs.Maps.{put_size}
use Rattle.shared_map.proofs.putting.halves.Goals as goal

pub split_at-requires : goal.split_at-requires
split_at-requires g c =
    let lent : length c.as_slice.result.now ≡ length c.put_in.new.list.items = ap length c.as_slice.ensures.value in
    let many = c.put_in.new.list.ok in
    omega (arith, lent, many.0, c.len.ensures)

pub returns-clause-filled : goal.returns-clause-filled
returns-clause-filled g c =
    let k = c.args.entry.value in
    let size = put_size k.0 k.1 (values c.args.part.now) c.requires.sorted in
    let new : length (part_entries c.put_in.new.list) ≡ length (put by_bytes k.0 k.1 (values c.args.part.now)) = ap length (c.in_ok-put_in.ensures.ok ∙ ap (put by_bytes k.0 k.1) c.in_ok-list.ensures) in
    let same : length (part_entries c.put_in.new.list) ≡ length c.put_in.new.list.items = length-map c.put_in.new.list.items (λ a. a.value) in
    let lent : length c.as_slice.result.now ≡ length c.put_in.new.list.items = ap length c.as_slice.ensures.value in
    let more = c.requires.more in
    let most = c.requires.most in
    let many = c.put_in.new.list.ok in
    let count = c.len.ensures in
    let front = c.split_at.ensures.front_len in
    let back = c.split_at.ensures.back_len in
    let one : length (part_entries c.in_ok-first.first.value) ≡ length c.split_at.result.0.now =
    ap (λ v. length (part_entries v)) c.in_ok-first.ensures.ok ∙ ap length c.in_ok-shared.ensures ∙ length-map c.split_at.result.0.now (λ a. a.value) in
    let two : length (part_entries c.in_ok-second.second.value) ≡ length c.split_at.result.1.now =
    ap (λ v. length (part_entries v)) c.in_ok-second.ensures.ok ∙ ap length c.in_ok-shared-2.ensures ∙ length-map c.split_at.result.1.now (λ a. a.value) in (
      (
        omega (arith, one, front, size.0, new, same, many.0, count, more),
        omega (arith, one, front, size.1, new, same, many.0, count, most),
      ),
      (
        omega (arith, two, back, size.0, new, same, lent, many.0, count, more),
        omega (arith, two, back, size.1, new, same, lent, many.0, count, most),
      ),
    )
