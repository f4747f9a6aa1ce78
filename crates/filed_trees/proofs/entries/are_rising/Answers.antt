use Rattle.std.proofs.{Common.{of_calls, rules}, lemmas.Fn.always_returns_same}
use Rattle.std.specs.Ordering.{is_lt}
use Rattle.shared_map.specs.Entries.{by_bytes}
use Rattle.fsfs_nodes.specs.declared.entries.DirectoryEntry.{DirectoryEntry}
use Rattle.filed_trees.proofs.Remade.{rising}
use Rattle.filed_trees.proofs.entries.are_rising.Goals as goal

pub returns : goal.returns
returns c =
    rising c.args.entries.now c.is_sorted_by.result
    (c.is_sorted_by.ensures.cases (λ (x : DirectoryEntry) (y : DirectoryEntry). is_lt (by_bytes x.name y.name))
    (always_returns_same _ _ _ (λ a r f called. search (rules, of_calls))))
