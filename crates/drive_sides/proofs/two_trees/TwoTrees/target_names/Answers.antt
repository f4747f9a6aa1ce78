use Rattle.std.proofs.Common.{ap, ◌∙◌, inl, inr, ⊎_elim}
use Rattle.drive_rules.proofs.Joined.{or_right}
use Rattle.repo_api.specs.Readings.{is_name_among, names_at}
use Rattle.drive_sides.specs.Plans.{whole}
use Rattle.drive_sides.proofs.Listing.{among_target}
use Rattle.drive_sides.proofs.two_trees.TwoTrees.target_names.Goals as goal

pub returns : goal.returns
returns g c = λ x up some.
    ⊎_elim (λ there. inl (c.in_ok-put_names.ensures x
    ∙ or_right (is_name_among c.new-names.result.keys x) (is_name_among (names_at (g.R.Repository.content c.args.self.now.view.now) c.args.self.now.report.now.ask.revision c.args.place.now.known.goal) x)
    (ap (λ p. is_name_among (names_at (g.R.Repository.content c.args.self.now.view.now) c.args.self.now.report.now.ask.revision p) x) c.requires.led.goal ∙ there)))
    inr (among_target (g.R.Repository.content c.args.self.now.view.now) (whole c.args.self.now.report.now c.args.self.now.root) c.args.place.now.path x up some)
