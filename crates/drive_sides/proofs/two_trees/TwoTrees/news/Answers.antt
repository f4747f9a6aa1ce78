use Rattle.std.proofs.Common.{sym, ◌∙◌}
use Rattle.drive_sides.proofs.two_trees.TwoTrees.news.Goals as goal

pub news_of_place-requires : goal.news_of_place-requires
news_of_place-requires g c = record {
  scope = sym c.in_ok-is_in_scope.ensures ∙ c.if-not-branch.false;
  known = c.requires;
}
