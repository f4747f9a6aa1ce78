-- The steps of an edit.
use Rattle.std.proofs.Common.{◌≡◌, [], ◌∷◌, Option, Some, None, refl, sym, ap, subst}
use Rattle.svnpath.specs.Paths.{PathValue}
use Rattle.refusals.specs.declared.Refusal.{Refusal}
use Rattle.wire_edits.specs.declared.editing.EditorCommand.{EditorCommand}
use Rattle.edit_rules.specs.{Editor.Applies, Edits.EditState, Refused.refused_at, Refusing.edit_refusal}
use Rattle.access.specs.Points.{AccessRules, content_of, Point}
use Rattle.machine.specs.{Answers.{failure_at, says}, Machine.{EditStep, gives_up, JudgedEdit, MachineEdit}, Stages.Stage, declared.env.Env.Env}
use Rattle.machine.specs.declared.phase.Phase.TheVariants.{Editing, Skipping}
use Rattle.session_replies.proofs.Steps.{Leads, only_says}

module _ (rules : AccessRules) (env : Env) (edit : MachineEdit) (command : EditorCommand) (p q : Point) (later : rules.between p q) where
  -- a command is applied
  pub goes_on : (known : Type 0) (after : EditState) → edit_refusal (content_of q) edit.editor command ≡ None
      → Applies known (content_of q) edit.editor command after → Leads rules (EditStep known env edit command) p q env
      (Editing (record { client = edit.client; asked = edit.asked; editor = after })) []
  goes_on known after accepted applies =
      let phase : Stage = Editing (record { client = edit.client; asked = edit.asked; editor = after }) in
      let judged = subst (λ (r : Option Refusal). JudgedEdit known env (content_of q) edit command r (says env phase [])) (sym accepted) (after, applies, refl) in
      only_says later judged

  -- one that is refused gives the edit up
  pub ends : (known : Type 0) (r : Refusal) (path : Option PathValue) → edit_refusal (content_of q) edit.editor command ≡ Some r → path ≡ refused_at edit.editor command r
      → Leads rules (EditStep known env edit command) p q env (Skipping edit.client) (failure_at edit.client.is_of_today r path ∷ [])
  ends known r path refused there =
      let judged = subst (λ (o : Option Refusal). JudgedEdit known env (content_of q) edit command o (gives_up env edit.client r path)) (sym refused)
      (ap (gives_up env edit.client r) there) in
      only_says later judged
