use Rattle.std.proofs.Common.{rules, subst, sym}
use Rattle.repo_api.specs.Readings.{is_name_among}
use Rattle.reporter.specs.Places.{AllHoldTogether}
use Rattle.drive_sides.specs.{Pairs.HasNoGraft, Plans.{drive_trees, whole}, Unlike.HoldUnlike}
use Rattle.drive_sides.proofs.{Listing.if_ok_both, UnlikeNames.{held_by_names, not_before}}
use Rattle.drive_sides.proofs.two_trees.TwoTrees.paths_holding_unlike.Goals as goal

pub returns : goal.returns
returns g c =
    let state = g.R.Repository.content c.args.self.now.view.now in
    let report = whole c.args.self.now.report.now c.args.self.now.root in
    let p = c.args.place.now.path in
    let grafted = c.put_names_beneath.new.names.keys in
    let names = c.put_unlike.new.names.keys in
    let together : AllHoldTogether state.revisions = search rules in
    if_ok_both (λ v paths distinct.
    subst (HoldUnlike (drive_trees state report) p) (sym paths)
    (held_by_names state report p c.in-Some.pair names together c.requires.under c.in-Some.ensures (c.in_ok-put_unlike.ensures.unlike c.if-not-branch.false)
    (λ x out. subst (λ grafts. HasNoGraft grafts p x) c.as_slice.ensures
    (c.in_ok-put_names_beneath.ensures x (not_before (is_name_among grafted x) (is_name_among names x) (c.in_ok-put_unlike.ensures.keeps x) out))) distinct))
    c.children_of.result c.children_of.ensures.paths c.children_of.ensures.distinct
