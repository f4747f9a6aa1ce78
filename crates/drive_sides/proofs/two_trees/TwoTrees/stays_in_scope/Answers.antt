use Rattle.std.proofs.Common.{◌∙◌, ◌++◌, ◌∷◌, [], ap}
use Rattle.drive_rules.specs.Scopes.{own_or_inherited}
use Rattle.reporter.specs.Targets.{counted_entries, depth_inherited, drive_limit, is_hidden, target_entries}
use Rattle.drive_sides.specs.Plans.{whole}
use Rattle.drive_sides.proofs.Reaching.{hidden_stops, stops, goes_on, ends}
use Rattle.drive_sides.proofs.two_trees.TwoTrees.stays_in_scope.Goals as goal

pub child_place-requires : goal.child_place-requires
child_place-requires g c = record {
  known = c.loop-name.invariant.1;
  child = (c.in_ok-clone.field-0, c.in_ok-child.ensures);
}

pub is_hidden-requires : goal.is_hidden-requires
is_hidden-requires g c = record {
  place = c.loop-name.invariant.1;
  child = c.in_ok-next.ensures.1;
  inside = (c.in_ok-clone.field-0, c.in_ok-next.ensures.0 ∙ c.in_ok-child.ensures);
}

pub includes-requires : goal.includes-requires
includes-requires g c = record {
  place = c.loop-name.invariant.1;
  child = c.in_ok-next.ensures.1;
  inside = (c.in_ok-clone.field-0, c.in_ok-next.ensures.0 ∙ c.in_ok-child.ensures);
}

pub returns-then-branch : goal.returns-then-branch
returns-then-branch g c =
    let state = g.R.Repository.content c.args.self.now.view.now in
    let report = whole c.args.self.now.report.now c.args.self.now.root in
    hidden_stops (is_hidden state report) (depth_inherited report.ask) (drive_limit state report) (counted_entries state report) (target_entries state report) report.ask.target c.args.path.now c.loop-name.here.path c.in_ok-next.next.path c.loop-name.depth _ c.loop-name.name-index c.name-item.result c.in_ok-is_hidden.field-0 c.requires c.loop-name.invariant.0 c.loop-name-test.true c.name-item.is
    (c.in_ok-next.ensures.0 ∙ c.in_ok-child.ensures ∙ ap (λ x. c.loop-name.here.path ++ x ∷ []) c.in_ok-clone.ensures.cases) c.in_ok-is_hidden.ensures c.if-branch.true

pub returns-then-not-includes : goal.returns-then-not-includes
returns-then-not-includes g c =
    let state = g.R.Repository.content c.args.self.now.view.now in
    let report = whole c.args.self.now.report.now c.args.self.now.root in
    stops (is_hidden state report) (depth_inherited report.ask) (drive_limit state report) (counted_entries state report) (target_entries state report) report.ask.target c.args.path.now c.loop-name.here.path c.in_ok-next.next.path c.loop-name.depth _ c.loop-name.name-index c.name-item.result c.includes.result c.requires c.loop-name.invariant.0 c.loop-name-test.true c.name-item.is
    (c.in_ok-next.ensures.0 ∙ c.in_ok-child.ensures ∙ ap (λ x. c.loop-name.here.path ++ x ∷ []) c.in_ok-clone.ensures.cases) c.includes.ensures c.if-not-includes.true

pub loop-name-preserved : goal.loop-name-preserved
loop-name-preserved g c =
    let state = g.R.Repository.content c.args.self.now.view.now in
    let report = whole c.args.self.now.report.now c.args.self.now.root in (
      goes_on (is_hidden state report) (depth_inherited report.ask) (drive_limit state report) (counted_entries state report) (target_entries state report) report.ask.target c.args.path.now c.loop-name.here.path c.in_ok-next.next.path c.loop-name.depth c.own_or_inherited-depth.result _ c.loop-name.name-index c.name-item.result c.in_ok-is_hidden.field-0 c.includes.result c.loop-name.invariant.0 c.loop-name-test.true c.name-item.is
          (c.in_ok-next.ensures.0 ∙ c.in_ok-child.ensures ∙ ap (λ x. c.loop-name.here.path ++ x ∷ []) c.in_ok-clone.ensures.cases) c.in_ok-is_hidden.ensures c.if-branch.false c.includes.ensures c.if-not-includes.false
          (c.own_or_inherited-depth.ensures ∙ ap (λ o. own_or_inherited (depth_inherited report.ask) o c.loop-name.depth) c.own_depth.ensures),
      c.in_ok-next.ensures.1,
    )

pub returns : goal.returns
returns g c =
    let state = g.R.Repository.content c.args.self.now.view.now in
    let report = whole c.args.self.now.report.now c.args.self.now.root in
    ends (is_hidden state report) (depth_inherited report.ask) (drive_limit state report) (counted_entries state report) (target_entries state report) report.ask.target c.args.path.now c.loop-name.here.path c.loop-name.depth _ c.loop-name.name-index c.requires c.loop-name.invariant.0 c.loop-name-test.false
