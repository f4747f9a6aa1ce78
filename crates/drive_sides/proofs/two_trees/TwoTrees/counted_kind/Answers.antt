use Rattle.std.proofs.Common.{◌∙◌, ap}
use Rattle.repo_api.specs.Kinds.{kind_of}
use Rattle.reporter.specs.Targets.{client_entries}
use Rattle.drive_sides.specs.Plans.{whole}
use Rattle.drive_sides.proofs.Knowing.{counted_child}
use Rattle.drive_sides.proofs.two_trees.TwoTrees.counted_kind.Goals as goal

pub returns : goal.returns
returns g c =
    let state = g.R.Repository.content c.args.self.now.view.now in
    let report = whole c.args.self.now.report.now c.args.self.now.root in
    let x = c.args.child.now.path in
    c.kind_if.ensures (client_entries state report x) c.kind_had.ensures
    ∙ ap kind_of (counted_child state report c.holder_at.result c.args.place.now.path x c.requires.place.under c.requires.inside c.holder_at.ensures)
