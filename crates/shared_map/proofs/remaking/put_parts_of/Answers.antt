use Rattle.std.proofs.Common.{◌≡◌, ◌++◌, take, drop, length, sym, ap, arith, ◌∙◌}
use Rattle.shared_map.specs.{Entries.all_entries, Rows.row_entries}
use Rattle.shared_map.proofs.Rows.{next_rows}
use Rattle.shared_map.proofs.remaking.put_parts_of.Goals as goal

pub loop-at-preserved : goal.loop-at-preserved
loop-at-preserved g c =
    let at = c.loop-at.at in
    let rows = c.args.rows.now in
    let front = c.split_at-in-loop-at.result.0.now in
    let is : front ≡ take (length front) (drop at rows) =
    c.split_at-in-loop-at.ensures.front ∙ ap (take c.min.result) c.split_at.ensures.back
    ∙ ap (λ n. take n (drop at rows)) (sym c.split_at-in-loop-at.ensures.front_len) in
    let more : all_entries c.put_part.new.parts.items ≡ all_entries c.loop-at.parts.items ++ row_entries front = c.in_ok-put_part.ensures.entries in
    let past : all_entries c.loop-at.parts.items ++ row_entries front ≡ (all_entries c.args.parts.now.items ++ row_entries (take at rows)) ++ row_entries front =
    ap (λ l. l ++ row_entries front) c.loop-at.invariant.entries in record {
      within = omega (arith, c.split_at.ensures.back_len, c.split_at-in-loop-at.ensures.front_len, c.split_at-in-loop-at.ensures.back_len);
      filled = c.in_ok-put_part.ensures.filled;
      entries = more ∙ past ∙ next_rows at (length front) rows (all_entries c.args.parts.now.items) front is;
    }
