use Rattle.std.proofs.Common.{◌++◌, ap, ◌∙◌}
use Rattle.shared_map.specs.{Entries.all_entries, Rows.row_entries}
use Rattle.shared_map.proofs.remaking.put_next.Goals as goal

pub returns-clause-entries : goal.returns-clause-entries
returns-clause-entries g c =
    c.in_ok-put_like.ensures.entries ∙ ap (λ l. all_entries c.args.parts.now.items ++ row_entries l) c.split_at.ensures.front
