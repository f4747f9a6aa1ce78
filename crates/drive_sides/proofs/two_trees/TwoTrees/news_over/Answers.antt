use Rattle.std.proofs.Common.{◌≡◌, ◌&&◌, option_map, sym, ap, subst, ◌∙◌}
use Rattle.std.specs.Prelude.{IfOk, option_and_then}
use Rattle.drive_news.specs.{News.news_of, Places.entry_had}
use Rattle.reporter.specs.Targets.{is_stale, new_tree, target_entries}
use Rattle.drive_sides.specs.Plans.{whole}
use Rattle.drive_sides.proofs.Comparing.{new_known}
use Rattle.drive_sides.proofs.two_trees.TwoTrees.news_over.Goals as goal

pub returns : goal.returns
returns g c =
    let state = g.R.Repository.content c.args.self.now.view.now in
    let report = whole c.args.self.now.report.now c.args.self.now.root in
    let p = c.args.place.now.path in
    let old = option_and_then (entry_had state) c.args.old in
    let some = sym (c.is_present.ensures.entry (target_entries state report p) c.kind_to_be.ensures) ∙ c.if-not-is_present.false in
    subst (λ stale. IfOk c.news_of.result (λ found. found ≡ option_map (news_of state report.ask.purpose stale old) (new_tree state report p))) (c.is_stale.ensures ∙ sym (ap (λ b. b && is_stale state report p) c.requires.scope))
    (subst (λ e. IfOk c.news_of.result (λ found. found ≡ option_map (news_of state report.ask.purpose c.is_stale.result old) e)) (sym (new_known state report p c.args.place.now.known c.requires.known c.requires.scope some)) c.news_of.ensures)
