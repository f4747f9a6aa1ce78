use Rattle.std.proofs.Common.{◌++◌, ap, ◌∙◌}
use Rattle.shared_map.specs.{Entries.all_entries, Rows.row_entries}
use Rattle.shared_map.proofs.Copies.{ok_then}
use Rattle.shared_map.proofs.remaking.put_rest.Goals as goal

pub returns-clause-entries : goal.returns-clause-entries
returns-clause-entries g c =
    ok_then c.put_parts.result _ _ (λ e. e ∙ ap (λ l. all_entries c.args.parts.now.items ++ row_entries l) c.split_at.ensures.back)
    c.put_parts.ensures.entries
