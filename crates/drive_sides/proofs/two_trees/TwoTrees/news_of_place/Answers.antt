use Rattle.std.proofs.Common.{◌≡◌, option_map, sym, subst}
use Rattle.std.specs.Prelude.{IfOk}
use Rattle.drive_news.specs.News.{news_at, news_of}
use Rattle.reporter.specs.Targets.{new_tree, stale_in}
use Rattle.drive_sides.specs.{Known.IsHadAt, Plans.whole}
use Rattle.drive_sides.proofs.Comparing.{none_known, old_known}
use Rattle.drive_sides.proofs.two_trees.TwoTrees.news_of_place.Goals as goal

pub returns-then-is_anew : goal.returns-then-is_anew
returns-then-is_anew g c =
    let state = g.R.Repository.content c.args.self.now.view.now in
    let report = whole c.args.self.now.report.now c.args.self.now.root in
    let p = c.args.place.now.path in
    subst (λ anew. IfOk c.news_over.result (λ found. found ≡ option_map (news_at state report p anew) (new_tree state report p))) (sym c.if-is_anew.true) c.news_over.ensures

pub returns-in-None : goal.returns-in-None
returns-in-None g c =
    let state = g.R.Repository.content c.args.self.now.view.now in
    let report = whole c.args.self.now.report.now c.args.self.now.root in
    let p = c.args.place.now.path in
    let had = subst (IsHadAt state report p) c.in-None.is c.requires.known.led.had in
    subst (λ anew. IfOk c.news_over-in-None.result (λ found. found ≡ option_map (news_at state report p anew) (new_tree state report p))) (sym c.if-is_anew.false)
    (subst (λ o. IfOk c.news_over-in-None.result (λ found. found ≡ option_map (news_of state report.ask.purpose (stale_in state report p) o) (new_tree state report p))) (sym (none_known state report p had)) c.news_over-in-None.ensures)

pub returns-in-Some : goal.returns-in-Some
returns-in-Some g c =
    let state = g.R.Repository.content c.args.self.now.view.now in
    let report = whole c.args.self.now.report.now c.args.self.now.root in
    let p = c.args.place.now.path in
    let had = subst (IsHadAt state report p) c.in-Some.is c.requires.known.led.had in
    subst (λ anew. IfOk c.news_over-in-Some.result (λ found. found ≡ option_map (news_at state report p anew) (new_tree state report p))) (sym c.if-is_anew.false)
    (subst (λ o. IfOk c.news_over-in-Some.result (λ found. found ≡ option_map (news_of state report.ask.purpose (stale_in state report p) o) (new_tree state report p))) (sym (old_known state report p c.in-Some.had c.had_at.result had c.requires.scope c.had_at.ensures)) c.news_over-in-Some.ensures)
