use Rattle.std.proofs.{Common.{◌≡◌, rules, tests}, lemmas.Iterator.Consumers.YieldsList-from_rest, lemmas.Iterator.Search.find_from_yields_List}
use Rattle.std.specs.{List.find, Map.keys_of, Prelude.option_copied}
use Rattle.flat_trees.specs.Merging.{conflict_at}
use Rattle.flat_trees.proofs.Finding.{finds_seen}
use Rattle.flat_trees.proofs.flat_tree.FlatTree.found_among.Goals as goal

pub returns : goal.returns
returns c =
    let found : option_copied c.find.result ≡ find (conflict_at c.args.base.now c.args.self.now c.args.youngest.now) (keys_of c.paths.inside.entries.entries) =
    find_from_yields_List (conflict_at c.args.base.now c.args.self.now c.args.youngest.now) _ _ c.find.result c.find.ensures.ran
    (YieldsList-from_rest (keys_of c.paths.inside.entries.entries) c.keys.ensures.rest) (λ x b q k. search (rules, tests)) in
    finds_seen (conflict_at c.args.base.now c.args.self.now c.args.youngest.now) c.paths.inside.entries.entries c.args.paths.now c.paths.view_is
    (option_copied c.find.result) found
