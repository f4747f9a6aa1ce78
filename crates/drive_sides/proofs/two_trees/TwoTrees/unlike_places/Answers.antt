use Rattle.std.proofs.{lemmas.List.Elements.{All-head, All-nil, All-tail}, lemmas.List.append-nil, Common.{rules, ◌∷◌, ◌++◌, [], subst, sym}}
use Rattle.std.specs.Prelude.{All}
use Rattle.drive_visits.proofs.Knowing.{push_known}
use Rattle.drive_visits.specs.{Knowing.{AreKnown, IsKnown, paths_of}, Walks.{IsChild, LeavesUnlike}}
use Rattle.drive_sides.specs.{Known.IsKnownOf, Plans.{drive_trees, whole}}
use Rattle.drive_sides.proofs.Knowing.{next_in, next_out, none_out, paths_more}
use Rattle.drive_sides.proofs.two_trees.TwoTrees.unlike_places.Goals as goal

pub loop-path-init : goal.loop-path-init
loop-path-init g c =
    let state = g.R.Repository.content c.args.self.now.view.now in
    let report = whole c.args.self.now.report.now c.args.self.now.root in (
      λ rest left.
          subst (λ ks. LeavesUnlike (drive_trees state report) c.args.paths.items (paths_of ks ++ rest)) (sym c.new-places.ensures.items)
          (subst (λ ps. LeavesUnlike (drive_trees state report) ps rest) c.from_vec-left.ensures.items left),
      subst (AreKnown (IsKnownOf state report)) (sym c.new-places.ensures.items) (All-nil (IsKnown (IsKnownOf state report))),
      subst (All (IsChild c.args.place.now.path)) (sym c.from_vec-left.ensures.items) c.requires.children,
    )

pub unlike_in-requires-clause-child : goal.unlike_in-requires-clause-child
unlike_in-requires-clause-child g c =
    All-head (IsChild c.args.place.now.path) c.in-Some.path c.pop_front.new.self.items (subst (All (IsChild c.args.place.now.path)) c.in-Some.ensures.items c.loop-path.invariant.2)

pub loop-path-preserved-in-Continue-branch-3 : goal.loop-path-preserved-in-Continue-branch-3
loop-path-preserved-in-Continue-branch-3 g c =
    let state = g.R.Repository.content c.args.self.now.view.now in
    let report = whole c.args.self.now.report.now c.args.self.now.root in
    let known = rw c.in-Some-2.is at c.in_ok-child.ensures.place in (
      λ rest left.
          subst (LeavesUnlike (drive_trees state report) c.args.paths.items) (paths_more c.loop-path.places.items c.push.new.self.items c.in-Some-2.child c.in-Some.path rest c.in_ok-push.ensures.items known.0)
          (c.loop-path.invariant.0 (c.in-Some.path ∷ rest) (next_in (drive_trees state report) c.loop-path.left.items c.pop_front.new.self.items c.in-Some.path rest c.in-Some.ensures.items left)),
      push_known (IsKnownOf state report) c.loop-path.places.items c.push.new.self.items c.in-Some-2.child c.in_ok-push.ensures.items c.loop-path.invariant.1 known.1,
      All-tail (IsChild c.args.place.now.path) c.in-Some.path c.pop_front.new.self.items (subst (All (IsChild c.args.place.now.path)) c.in-Some.ensures.items c.loop-path.invariant.2),
    )

pub loop-path-preserved : goal.loop-path-preserved
loop-path-preserved g c =
    let state = g.R.Repository.content c.args.self.now.view.now in
    let report = whole c.args.self.now.report.now c.args.self.now.root in (
      λ rest left. c.loop-path.invariant.0 rest (next_out (drive_trees state report) c.loop-path.left.items c.pop_front.new.self.items c.in-Some.path rest c.in-Some.ensures.items (rw c.in_default-2.is at c.in_ok-child.ensures.alike) left),
      c.loop-path.invariant.1,
      All-tail (IsChild c.args.place.now.path) c.in-Some.path c.pop_front.new.self.items (subst (All (IsChild c.args.place.now.path)) c.in-Some.ensures.items c.loop-path.invariant.2),
    )

pub returns-clause-unlike : goal.returns-clause-unlike
returns-clause-unlike g c =
    let state = g.R.Repository.content c.args.self.now.view.now in
    let report = whole c.args.self.now.report.now c.args.self.now.root in
    subst (LeavesUnlike (drive_trees state report) c.args.paths.items) (append-nil (paths_of c.loop-path.places.items))
    (c.loop-path.invariant.0 [] (none_out (drive_trees state report) c.loop-path.left.items (search rules)))
