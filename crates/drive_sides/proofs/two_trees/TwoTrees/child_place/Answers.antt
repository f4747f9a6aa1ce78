use Rattle.std.proofs.Common.{◌∷◌, ◌++◌, [], arith, ap, drop, length, length-append, ◌∙◌}
use Rattle.drive_sides.specs.Plans.{whole}
use Rattle.drive_sides.proofs.Knowing.{child_aim, child_in, known_by}
use Rattle.drive_sides.proofs.two_trees.TwoTrees.child_place.Goals as goal

pub rebased-requires : goal.rebased-requires
rebased-requires g c =
    let long = ap (λ x. length x) c.requires.child.1 ∙ length-append c.args.place.now.path (c.requires.child.0 ∷ []) in
    omega (long, arith)

pub returns : goal.returns
returns g c =
    let state = g.R.Repository.content c.args.self.now.view.now in
    let report = whole c.args.self.now.report.now c.args.self.now.root in
    let p = c.args.place.now.path in
    known_by state report c.holder_at.result c.in_ok-own.own c.args.path c.place_from.result (child_in report.ask.target p c.args.path c.requires.known.under c.requires.child)
    (child_aim state report c.holder_at.result p c.args.path c.in_ok-own.own c.requires.known.under c.requires.child c.holder_at.ensures
    (c.in_ok-own.ensures ∙ ap (λ goal. goal ++ drop (length p) c.args.path) c.requires.known.led.goal))
    c.place_from.ensures
