use Rattle.std.proofs.Common.{◌∷◌, [], ◌∙◌, refl}
use Rattle.drive_rules.proofs.Joined.{or_left, or_right}
use Rattle.repo_api.specs.{Readings.{names_at, is_name_among}, States.trees_in}
use Rattle.reporter.specs.Places.{in_place}
use Rattle.drive_sides.proofs.Listing.{among_place, none_in, on_ok}
use Rattle.drive_sides.proofs.names.put_place_names.Goals as goal

pub returns-then-is_alone-clause-adds : goal.returns-then-is_alone-clause-adds
returns-then-is_alone-clause-adds g c = λ x some.
    none_in (trees_in (g.R.Repository.content c.args.view.now).revisions) c.args.place.now x (c.is_alone.ensures c.if-is_alone.true) some c.args.names.now.keys

pub returns-clause-keeps : goal.returns-clause-keeps
returns-clause-keeps g c =
    on_ok (λ puts x h. puts x ∙ or_left (is_name_among c.args.names.now.keys x) (is_name_among (names_at (g.R.Repository.content c.args.view.now) c.args.place.now.revision c.args.place.now.path) x) h) c.put_names.result c.put_names.ensures

pub returns-clause-adds : goal.returns-clause-adds
returns-clause-adds g c =
    on_ok (λ puts x some. puts x ∙ or_right (is_name_among c.args.names.now.keys x) (is_name_among (names_at (g.R.Repository.content c.args.view.now) c.args.place.now.revision c.args.place.now.path) x)
    (among_place (g.R.Repository.content c.args.view.now) c.args.place.now (in_place (trees_in (g.R.Repository.content c.args.view.now).revisions) c.args.place.now (x ∷ [])) x refl some)) c.put_names.result c.put_names.ensures
