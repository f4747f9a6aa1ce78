use Rattle.edit_rules.proofs.Sound.{goes_on}
use Rattle.edit_rules.proofs.laws.edits_keep_trees.Goals as goal

pub returns-clause-goes_on : goal.returns-clause-goes_on
returns-clause-goes_on c =
    goes_on c.beginnings_are_trees.ensures c.edits_keep_trees.ensures c.same_entries_make_a_tree.ensures c.transactions_begin_marked.ensures c.transactions_stay_marked.ensures
