use Rattle.std.proofs.{Common.{[], sym, ◌∙◌}, lemmas.Result.IfOk-weaker}
use Rattle.repo_api.specs.Trees.{HasDirectory}
use Rattle.reporter.specs.Targets.{old_tree, new_tree}
use Rattle.drive_sides.specs.Plans.{whole}
use Rattle.drive_sides.proofs.Planned.{directory_of, root_kept, root_old, root_new, root_plan, target_plan, not_root}
use Rattle.drive_sides.proofs.planning.visitor.Goals as goal

pub of_root-requires : goal.of_root-requires
of_root-requires g c = record {
  old = old_directory;
  new = new_directory;
  root = sym c.as_path.ensures.path ∙ c.is_root.ensures.0 c.if-is_root.true;
  stays = root_kept (g.R.Repository.content c.args.trees.now.view.now) c.args.trees.now.report.now c.args.trees.now.root c.requires.finished (sym c.as_path.ensures.path ∙ c.is_root.ensures.0 c.if-is_root.true);
}
  where
    old_directory : HasDirectory (old_tree (g.R.Repository.content c.args.trees.now.view.now) (whole c.args.trees.now.report.now c.args.trees.now.root)) []
    old_directory = directory_of (old_tree (g.R.Repository.content c.args.trees.now.view.now) (whole c.args.trees.now.report.now c.args.trees.now.root) []) (root_old (g.R.Repository.content c.args.trees.now.view.now) c.args.trees.now.report.now c.args.trees.now.root c.requires.finished (sym c.as_path.ensures.path ∙ c.is_root.ensures.0 c.if-is_root.true))

    new_directory : HasDirectory (new_tree (g.R.Repository.content c.args.trees.now.view.now) (whole c.args.trees.now.report.now c.args.trees.now.root)) []
    new_directory = directory_of (new_tree (g.R.Repository.content c.args.trees.now.view.now) (whole c.args.trees.now.report.now c.args.trees.now.root) []) (root_new (g.R.Repository.content c.args.trees.now.view.now) c.args.trees.now.report.now c.args.trees.now.root c.requires.finished (sym c.as_path.ensures.path ∙ c.is_root.ensures.0 c.if-is_root.true))

pub returns-then-is_root-clause-plan : goal.returns-then-is_root-clause-plan
returns-then-is_root-clause-plan g c =
    IfOk-weaker c.of_root.result _ _ (λ v plan. λ visits left. root_plan (g.R.Repository.content c.args.trees.now.view.now) (whole c.args.trees.now.report.now c.args.trees.now.root) visits c.requires.trees (sym c.as_path.ensures.path ∙ c.is_root.ensures.0 c.if-is_root.true) (plan visits left)) c.of_root.ensures.plan

pub returns-else-is_root-clause-plan : goal.returns-else-is_root-clause-plan
returns-else-is_root-clause-plan g c =
    IfOk-weaker c.of_top.result _ _ (λ v plan. λ visits left. target_plan (g.R.Repository.content c.args.trees.now.view.now) (whole c.args.trees.now.report.now c.args.trees.now.root) visits c.requires.trees (not_root c.args.trees.now.report.now.ask.target c.is_root.result (λ is. c.is_root.ensures.1 (c.as_path.ensures.path ∙ is)) c.if-is_root.false)
    (plan visits left)) c.of_top.ensures.plan
