use Rattle.std.proofs.{Common.{◌∷◌, ◌++◌, [], rules, subst, sym, ◌∙◌}, lemmas.Result.IfOk-weaker}
use Rattle.history.specs.Logs.{place_at}
use Rattle.repo_api.specs.Readings.{IsSameAt}
use Rattle.drive_visits.specs.Walks.{AreAlike}
use Rattle.reporter.specs.Places.{AllHoldTogether}
use Rattle.drive_sides.specs.{Lines.KeepsLines, Plans.{drive_trees, whole}}
use Rattle.drive_sides.proofs.{Knowing.rebased_child, SameBeneath.{alike_in_pair, pair_beside}, Ungrafted.none_at}
use Rattle.drive_sides.proofs.two_trees.TwoTrees.is_alike_in.Goals as goal

pub returns : goal.returns
returns g c =
    let state = g.R.Repository.content c.args.self.now.view.now in
    let report = whole c.args.self.now.report.now c.args.self.now.root in
    let p = c.args.place.now.path in
    let together : AllHoldTogether state.revisions = search rules in
    let x = c.requires.child.0 in
    let old = c.in_ok-old.ensures ∙ rebased_child p c.args.path.now c.args.pair.old.now x c.requires.child.1 in
    let new = c.in_ok-new.ensures ∙ rebased_child p c.args.path.now c.args.pair.new.now x c.requires.child.1 in
    let same = c.is_same.ensures c.if-not-is_same.false in
    IfOk-weaker c.keeps_lines.result _ _ (λ alike keeps said.
    subst (AreAlike (drive_trees state report)) (sym c.requires.child.1)
    (alike_in_pair state report p c.args.pair x together c.requires.known.under (pair_beside state report p c.args.pair c.requires.pair)
    (none_at report.grafts p x c.requires.pair.free)
    (subst (λ q. IsSameAt state c.args.pair.revision (c.args.pair.old.now ++ x ∷ []) report.ask.revision q) new (subst (λ q. IsSameAt state c.args.pair.revision q report.ask.revision c.in_ok-new.new) old same))
    (subst (λ q. KeepsLines state report.ask (place_at c.args.pair.revision (c.args.pair.old.now ++ x ∷ [])) (place_at report.ask.revision q)) new
    (subst (λ q. KeepsLines state report.ask (place_at c.args.pair.revision q) (place_at report.ask.revision c.in_ok-new.new)) old (keeps said)))))
    c.keeps_lines.ensures
