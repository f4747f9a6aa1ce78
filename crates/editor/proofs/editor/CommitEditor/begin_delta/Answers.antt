use Rattle.std.specs.Arc.{arc_value}
use Rattle.edit_rules.specs.declared.opened.DeltaState.TheVariants.{NotBegun}
use Rattle.editor.proofs.TextSteps.{begins, is_unread}
use Rattle.editor.proofs.editor.CommitEditor.begin_delta.Goals as goal

pub returns-clause-done : goal.returns-clause-done
returns-clause-done g c =
    let b = c.in_ok-base.ensures.base in
    let base = (arc_value c.in_ok-base.base).items in
    let begun = begins (g.T.Texts.is_honest _) _ c.args.self.now c.args.token.now b.0 c.new.result base _ c.self.view_is b.1 (c.set_delta.ensures b.0 NotBegun)
    (is_unread c.new.result base c.new.ensures.base c.new.ensures.reading) b.2 in
    (c.in_ok-base.ensures.judged, begun, tt)
