use Rattle.std.proofs.Common.{rules, Err, sym, ap, subst, ◌≡◌, ◌∙◌}
use Rattle.std.specs.{FinMap.Entries.is_sorted, Prelude.T}
use Rattle.shared_map.specs.{Entries.by_bytes, Rows.row_entries}
use Rattle.filed_trees.specs.{Comparing.{AreAt, tables_of}, Readable.{AreEntries, IsTabled, ReadsWhere}}
use Rattle.filed_trees.proofs.{Judged.no_part, Remade.{all_known, are_entries, made_at, rows_rise}}
use Rattle.filed_trees.proofs.entries.rising_kids.Goals as goal

pub remade-requires : goal.remade-requires
remade-requires c =
    subst (λ rows. T (is_sorted by_bytes (row_entries rows))) (sym c.as_slice.ensures.value)
    (rows_rise (tables_of c.args.places) (row_entries c.in_ok-rows.rows.items) c.args.entries.now c.in_ok-rows.ensures.rows c.requires)

pub returns-in_err-rows : goal.returns-in_err-rows
returns-in_err-rows c =
    let tables = tables_of c.args.places in
    let entries = c.args.entries.now in
    let fault = c.in_err-rows.field-0.0 in
    let is : c.from_residual.result ≡ Err fault = search rules in
    subst (λ r. ReadsWhere r (AreEntries (IsTabled tables) entries) (λ made. AreAt tables made entries)) (sym is)
    (no_part fault (all_known (IsTabled tables) entries) c.in_err-rows.ensures.judges)

pub returns : goal.returns
returns c =
    let tables = tables_of c.args.places in
    let entries = c.args.entries.now in (
      are_entries (IsTabled tables) entries c.requires c.in_ok-rows.ensures.judges,
      made_at tables c.in_ok-remade.field-0 (row_entries c.in_ok-rows.rows.items) entries
          (c.in_ok-remade.ensures ∙ ap row_entries c.as_slice.ensures.value) c.in_ok-rows.ensures.rows,
    )
