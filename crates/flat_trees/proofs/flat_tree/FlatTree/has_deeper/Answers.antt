use Rattle.std.proofs.{Common.{rules, tests, ◌+◌, ◌&&◌, length, ◌∙◌}, lemmas.Iterator.Consumers.YieldsList-from_rest}
use Rattle.std.proofs.lemmas.Iterator.Search.{any_from_yields_List}
use Rattle.std.specs.{Prelude.nat_lt, Map.keys_of}
use Rattle.svnpath.specs.Paths.{is_at_or_under}
use Rattle.flat_trees.proofs.Keys.{any_seen}
use Rattle.flat_trees.proofs.flat_tree.FlatTree.has_deeper.Goals as goal

pub returns : goal.returns
returns c =
    any_from_yields_List (λ q. is_at_or_under q c.args.path.now && nat_lt (length c.args.path.now + c.args.names) (length q)) _ _ c.any.result c.any.ensures.ran
    (YieldsList-from_rest (keys_of c.self.inside.entries.entries) c.keys.ensures.rest) (λ x b q k. search (rules, tests))
    ∙ any_seen (λ q. is_at_or_under q c.args.path.now && nat_lt (length c.args.path.now + c.args.names) (length q)) c.self.inside.entries.entries c.args.self.now c.self.view_is
