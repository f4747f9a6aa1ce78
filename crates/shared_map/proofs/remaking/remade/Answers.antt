use Rattle.std.proofs.Common.{◌++◌, [], take, drop, sym, ap, subst, arith, ◌∙◌}
use Rattle.std.specs.{Prelude.T, FinMap.Entries.is_sorted}
use Rattle.shared_map.specs.{Entries.by_bytes, Rows.row_entries}
use Rattle.shared_map.proofs.Rows.{next_rows, all_rows}
use Rattle.shared_map.proofs.remaking.remade.Goals as goal

pub loop-place-preserved : goal.loop-place-preserved
loop-place-preserved g c =
    let at = c.loop-place.at in
    let rows = c.args.rows.now in
    let n = c.in_ok-count.count in record {
      within = omega (arith, c.split_at.ensures.back_len, c.in_ok-count.ensures.within);
      filled = c.in_ok-count.ensures.filled;
      entries = c.in_ok-count.ensures.entries ∙ ap (λ l. l ++ row_entries (take n c.split_at.result.1.now)) c.loop-place.invariant.entries
          ∙ next_rows at n rows [] (take n c.split_at.result.1.now) (ap (take n) c.split_at.ensures.back);
    }

pub returns-clause-entries : goal.returns-clause-entries
returns-clause-entries g c =
    c.in_ok-put_rest.ensures.entries ∙ ap (λ l. l ++ row_entries (drop c.loop-place.at c.args.rows.now)) c.loop-place.invariant.entries
    ∙ all_rows c.loop-place.at c.args.rows.now

pub returns-clause-parts : goal.returns-clause-parts
returns-clause-parts g c =
    let whole = c.in_ok-put_rest.ensures.entries ∙ ap (λ l. l ++ row_entries (drop c.loop-place.at c.args.rows.now)) c.loop-place.invariant.entries
    ∙ all_rows c.loop-place.at c.args.rows.now in record {
      sorted = subst (λ es. T (is_sorted by_bytes es)) (sym whole) c.requires;
      filled = c.in_ok-put_rest.ensures.filled;
    }
