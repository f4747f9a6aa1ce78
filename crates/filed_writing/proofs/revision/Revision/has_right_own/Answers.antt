use Rattle.std.proofs.Common.{◌≡◌, Decides, Some, None, ap, subst, sym, ◌∙◌}
use Rattle.std.specs.Prelude.{option_map}
use Rattle.repo_api.specs.declared.entry.Mark.{Mark}
use Rattle.noderevs.specs.Nodes.{mark_of}
use Rattle.filed_writing.specs.{Drafts.came_from, Layout.made_from}
use Rattle.filed_writing.proofs.Keeping.{due_before, due_here, due_none}
use Rattle.filed_writing.proofs.revision.Revision.has_right_own.Goals as goal

pub returns-then-is_changed : goal.returns-then-is_changed
returns-then-is_changed c =
    subst (λ (m : Mark). Decides c.is_mark.result (mark_of c.args.node.now.own ≡ m))
    (sym (due_here c.args.self c.args.node.now (sym c.requires.changed ∙ c.if-is_changed.true))) c.is_mark.ensures

pub returns-in-Some : goal.returns-in-Some
returns-in-Some c =
    let made : made_from c.args.self c.args.node.now ≡ Some (came_from c.in-Some.before) = sym c.requires.made ∙ ap (option_map came_from) c.in-Some.is in
    subst (λ (m : Mark). Decides c.is_mark-in-Some.result (mark_of c.args.node.now.own ≡ m))
    (sym (due_before c.args.self c.args.node.now (came_from c.in-Some.before) (sym c.requires.changed ∙ c.if-is_changed.false) made)) c.is_mark-in-Some.ensures

pub returns-in-None : goal.returns-in-None
returns-in-None c =
    let made : made_from c.args.self c.args.node.now ≡ None = sym c.requires.made ∙ ap (option_map came_from) c.in-None.is in
    subst (λ (m : Mark). Decides c.is_mark-in-None.result (mark_of c.args.node.now.own ≡ m))
    (sym (due_none c.args.self c.args.node.now (sym c.requires.changed ∙ c.if-is_changed.false) made)) c.is_mark-in-None.ensures
