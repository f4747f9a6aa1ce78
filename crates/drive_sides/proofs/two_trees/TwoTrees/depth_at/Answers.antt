use Rattle.std.proofs.Common.{◌∙◌, ◌++◌, ◌∷◌, [], ap}
use Rattle.drive_rules.specs.Scopes.{own_or_inherited}
use Rattle.reporter.specs.Targets.{depth_inherited, drive_limit}
use Rattle.drive_sides.specs.Plans.{whole}
use Rattle.drive_sides.proofs.Deep.{at_the_end, deeper}
use Rattle.drive_sides.proofs.two_trees.TwoTrees.depth_at.Goals as goal

pub child_place-requires : goal.child_place-requires
child_place-requires g c = record {
  known = c.loop-name.invariant.1;
  child = (c.in_ok-clone.field-0, c.in_ok-child.ensures);
}

pub loop-name-preserved : goal.loop-name-preserved
loop-name-preserved g c =
    let state = g.R.Repository.content c.args.self.now.view.now in
    let report = whole c.args.self.now.report.now c.args.self.now.root in (
      deeper (depth_inherited report.ask) (drive_limit state report) report.ask.target c.args.path.now c.loop-name.here.path c.in_ok-here-2.here.path c.loop-name.depth c.own_or_inherited-depth.result _ c.loop-name.name-index c.name-item.result c.loop-name.invariant.0 c.loop-name-test.true c.name-item.is
          (c.in_ok-here-2.ensures.0 ∙ c.in_ok-child.ensures ∙ ap (λ x. c.loop-name.here.path ++ x ∷ []) c.in_ok-clone.ensures.cases)
          (c.own_or_inherited-depth.ensures ∙ ap (λ o. own_or_inherited (depth_inherited report.ask) o c.loop-name.depth) c.own_depth.ensures),
      c.in_ok-here-2.ensures.1,
    )

pub returns : goal.returns
returns g c =
    let state = g.R.Repository.content c.args.self.now.view.now in
    let report = whole c.args.self.now.report.now c.args.self.now.root in
    at_the_end (depth_inherited report.ask) (drive_limit state report) report.ask.target c.args.path.now c.loop-name.here.path c.loop-name.depth _ c.loop-name.name-index c.loop-name.invariant.0 c.loop-name-test.false
