use Rattle.std.proofs.Common.{sym, ap, ◌∙◌}
use Rattle.svnpath.specs.Texts.{joined}
use Rattle.edit_rules.specs.{Edits.EditState, Refusing.delete_entry_refusal}
use Rattle.editor.proofs.editor.CommitEditor.delete_entry.Goals as goal

pub returns : goal.returns
returns g c =
    let named = sym (ap (λ (e : EditState). joined e.path c.args.entry.now.path) c.self.view_is) ∙ c.in_ok-path.ensures in
    let deleted = c.in_ok-delete_at.ensures in (
      ap (λ path. delete_entry_refusal c.args.self.now c.args.entry.now path) named ∙ deleted.0,
      (c.in_ok-path.path, named, deleted.1),
      tt,
    )
