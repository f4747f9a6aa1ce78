use Rattle.std.proofs.Common.{◌||◌, rules, sym, ap, subst, ◌∙◌}
use Rattle.drive_visits.specs.Walks.{IsListed}
use Rattle.drive_visits.proofs.Children.{children_all, children_are}
use Rattle.reporter.specs.{Places.AllHoldTogether, Targets.{new_tree, old_tree}}
use Rattle.repo_api.specs.Readings.{is_name_among}
use Rattle.drive_sides.specs.{Names.{ArePut, graft_names}, Plans.{drive_trees, whole}}
use Rattle.drive_sides.proofs.Listing.{if_ok_both, new_named, old_named}
use Rattle.drive_sides.proofs.two_trees.TwoTrees.listed.Goals as goal

pub returns : goal.returns
returns g c =
    let together : AllHoldTogether (g.R.Repository.content c.args.self.now.view.now).revisions = search rules in
    let put : ArePut (graft_names c.args.place.now.path c.args.self.now.report.now.grafts) c.put_client_names.new.names.keys c.put_graft_names.new.names.keys = λ x. c.in_ok-put_graft_names.ensures x ∙ ap (λ gs. is_name_among c.put_client_names.new.names.keys x || is_name_among (graft_names c.args.place.now.path gs) x) c.as_slice.ensures in
    if_ok_both (λ v is distinct. subst (IsListed (drive_trees (g.R.Repository.content c.args.self.now.view.now) (whole c.args.self.now.report.now c.args.self.now.root)) c.args.place.now.path) (sym is) (record {
      children = children_are c.args.place.now.path c.put_graft_names.new.names.keys distinct;
      all_old = λ holds. children_all (old_tree (g.R.Repository.content c.args.self.now.view.now) (whole c.args.self.now.report.now c.args.self.now.root)) c.args.place.now.path c.put_graft_names.new.names.keys holds
          (old_named (g.R.Repository.content c.args.self.now.view.now) (whole c.args.self.now.report.now c.args.self.now.root) c.args.place.now.path c.put_client_names.new.names.keys c.put_graft_names.new.names.keys c.in_ok-put_client_names.ensures.adds put holds);
      all_new = λ holds. children_all (new_tree (g.R.Repository.content c.args.self.now.view.now) (whole c.args.self.now.report.now c.args.self.now.root)) c.args.place.now.path c.put_graft_names.new.names.keys holds
          (new_named (g.R.Repository.content c.args.self.now.view.now) (whole c.args.self.now.report.now c.args.self.now.root) c.args.place.now.path c.args.new.keys c.put_client_names.new.names.keys c.put_graft_names.new.names.keys together c.requires.new c.in_ok-put_client_names.ensures.keeps c.in_ok-put_client_names.ensures.adds put holds);
    })) c.children_of.result c.children_of.ensures.paths c.children_of.ensures.distinct
