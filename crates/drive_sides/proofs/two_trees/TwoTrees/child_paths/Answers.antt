use Rattle.std.proofs.Common.{[], subst, sym}
use Rattle.drive_visits.specs.Walks.{IsListed}
use Rattle.drive_visits.proofs.Children.{children_all, children_are}
use Rattle.reporter.specs.{Reported.reported_entries, Targets.{client_tree, new_tree, old_tree, target_entries}}
use Rattle.drive_sides.specs.{Depths.Reaches, Plans.{drive_trees, whole}, declared.reach.Reach.Reach, declared.reach.Reach.TheVariants.NoChild}
use Rattle.drive_sides.proofs.Listing.{had_all, named_all, none_named}
use Rattle.drive_sides.proofs.two_trees.TwoTrees.child_paths.Goals as goal

pub returns-in-NoChild : goal.returns-in-NoChild
returns-in-NoChild g c =
    let out : Reaches NoChild (g.R.Repository.content c.args.self.now.view.now) (whole c.args.self.now.report.now c.args.self.now.root) c.args.place.now.path = subst (λ (r : Reach). Reaches r (g.R.Repository.content c.args.self.now.view.now) (whole c.args.self.now.report.now c.args.self.now.root) c.args.place.now.path) c.in-NoChild.is c.in_ok-reach.ensures in
    subst (IsListed (drive_trees (g.R.Repository.content c.args.self.now.view.now) (whole c.args.self.now.report.now c.args.self.now.root)) c.args.place.now.path) (sym c.new.ensures.items) (record {
      children = children_are c.args.place.now.path [] tt;
      all_old = λ holds. children_all (old_tree (g.R.Repository.content c.args.self.now.view.now) (whole c.args.self.now.report.now c.args.self.now.root)) c.args.place.now.path [] holds
          (none_named (g.R.Repository.content c.args.self.now.view.now) (whole c.args.self.now.report.now c.args.self.now.root) c.args.place.now.path (reported_entries (client_tree (g.R.Repository.content c.args.self.now.view.now) (whole c.args.self.now.report.now c.args.self.now.root))) out);
      all_new = λ holds. children_all (new_tree (g.R.Repository.content c.args.self.now.view.now) (whole c.args.self.now.report.now c.args.self.now.root)) c.args.place.now.path [] holds
          (none_named (g.R.Repository.content c.args.self.now.view.now) (whole c.args.self.now.report.now c.args.self.now.root) c.args.place.now.path (target_entries (g.R.Repository.content c.args.self.now.view.now) (whole c.args.self.now.report.now c.args.self.now.root)) out);
    })

pub listed-requires : goal.listed-requires
listed-requires g c = record {
  known = c.requires;
  new = had_all (g.R.Repository.content c.args.self.now.view.now) (whole c.args.self.now.report.now c.args.self.now.root) c.args.place.now.path _
      (subst (λ (r : Reach). Reaches r (g.R.Repository.content c.args.self.now.view.now) (whole c.args.self.now.report.now c.args.self.now.root) c.args.place.now.path) c.in-ChildHad.is c.in_ok-reach.ensures);
}

pub listed-requires-in-AnyChild : goal.listed-requires-in-AnyChild
listed-requires-in-AnyChild g c = record {
  known = c.requires;
  new = named_all (g.R.Repository.content c.args.self.now.view.now) (whole c.args.self.now.report.now c.args.self.now.root) c.args.place.now.path c.in_ok-names-in-AnyChild.names.keys c.in_ok-names-in-AnyChild.ensures;
}
