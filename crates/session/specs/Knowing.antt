-- An input, where a text is read for it.
use Rattle.wire_edits.specs.Editing.{editor_command}
use Rattle.machine.specs.{Answers.Step, Hearing.Input, Hearing.Input.{Broken, Whole}, Machine.{EditingStep, InputStep}, Settings.Settings, Stages.Stage}
use Rattle.machine.specs.declared.env.Env.{Env}
use Rattle.machine.specs.declared.phase.Phase.TheVariants.{Greeted, LoggingIn, Challenged, Serving, Editing, Skipping, Reporting, Driven, Ended}

-- The machine's step at an input. Within an edit, the base of a text delta is the file's text where
-- `known` holds, and may be any where it does not.
abbrev pub StepIfKnown : Type 0 → Settings → Env → Stage → Input → Step
StepIfKnown known s env (Editing edit) (Whole t) = EditingStep known env edit (editor_command t)
StepIfKnown known s env (Editing edit) Broken = InputStep s env (Editing edit) Broken
StepIfKnown known s env Greeted input = InputStep s env Greeted input
StepIfKnown known s env (LoggingIn login) input = InputStep s env (LoggingIn login) input
StepIfKnown known s env (Challenged pending) input = InputStep s env (Challenged pending) input
StepIfKnown known s env (Serving client) input = InputStep s env (Serving client) input
StepIfKnown known s env (Skipping client) input = InputStep s env (Skipping client) input
StepIfKnown known s env (Reporting reporting) input = InputStep s env (Reporting reporting) input
StepIfKnown known s env (Driven client) input = InputStep s env (Driven client) input
StepIfKnown known s env Ended input = InputStep s env Ended input
