use Rattle.std.proofs.Common.{sym, subst, ◌∙◌}
use Rattle.std.specs.Prelude.{IfOk}
use Rattle.reporter.specs.{Sent.counts_changes, Targets.{new_tree, target_entries}}
use Rattle.drive_news.specs.Places.{Compares, entry_had}
use Rattle.drive_sides.specs.{Known.IsHadAt, Plans.whole}
use Rattle.drive_sides.proofs.Comparing.{new_known, old_known}
use Rattle.drive_sides.proofs.two_trees.TwoTrees.differs.Goals as goal

pub returns-else-not-is_present : goal.returns-else-not-is_present
returns-else-not-is_present g c =
    let state = g.R.Repository.content c.args.self.now.view.now in
    let changes = counts_changes c.args.self.now.report.now.ask.purpose in
    let report = whole c.args.self.now.report.now c.args.self.now.root in
    let p = c.args.place.now.path in
    let some = sym (c.is_present-in-Some.ensures.entry (target_entries state report p) c.kind_to_be-in-Some.ensures) ∙ c.if-not-is_present.false in
    let had = subst (IsHadAt state report p) c.in-Some.is c.requires.known.led.had in
    subst (λ e. IfOk c.entries_differ.result (λ answer. Compares changes answer e (new_tree state report p))) (sym (old_known state report p c.in-Some.had c.had_at.result had c.requires.scope c.had_at.ensures))
    (subst (λ e. IfOk c.entries_differ.result (λ answer. Compares changes answer (entry_had state c.had_at.result) e)) (sym (new_known state report p c.args.place.now.known c.requires.known c.requires.scope some))
    c.entries_differ.ensures)
