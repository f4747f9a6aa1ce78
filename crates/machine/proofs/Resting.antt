-- An edit rests on revisions that stay.
use Rattle.std.proofs.Common.{◌≡◌, List, [], ◌∷◌, ◌++◌, Bool, true, false, Option, Some, None, refl, sym, ap, subst, ◌∙◌, append-nil, append_assoc}
use Rattle.std.specs.Prelude.{Result, Ok, Err, if◌then◌else◌}
use Rattle.refusals.specs.declared.Refusal.{Refusal}
use Rattle.repo_api.specs.{Accepted.{Accepted, changed, changed_all}, Accepted.Accepted.{ChangesProperty, Commits, Locks, Releases, Unlocks}}
use Rattle.repo_api.specs.{Commits.commit_refusal, Soundness.AreSound, States.{IsBeginning, RepoState, Revision, TxnState}, declared.edit.EditOp.EditOp}
use Rattle.repo_api.specs.declared.ask.CommitAsk.{CommitAsk}
use Rattle.wire_edits.specs.{Editing.editor_command, declared.editing.EditorCommand.EditorCommand, declared.editing.EditorCommand.TheVariants.TargetRevision}
use Rattle.wire_edits.specs.declared.editing.EditorCommand.TheVariants.{OpenRoot, DeleteEntry, AddDirectory, AddFile, OpenDirectory, OpenFile, AbsentDirectory}
use Rattle.wire_edits.specs.declared.editing.EditorCommand.TheVariants.{AbsentFile, ChangeDirectoryProperty, ChangeFileProperty, ApplyTextDelta, TextDeltaChunk}
use Rattle.wire_edits.specs.declared.editing.EditorCommand.TheVariants.{TextDeltaEnd, CloseDirectory, CloseFile, CloseEdit, AbortEdit}
use Rattle.wire_forms.specs.{declared.fault.CommandFault.CommandFault, declared.fault.CommandFault.TheVariants.{UnknownName, BadParameters, NoMemory}}
use Rattle.edit_rules.specs.{Editor.{Applies, Edits as EditsTxn, finished, RestsIn, RestsOn}, Edits.EditState, Refusing.edit_refusal, Tokens.Tokens}
use Rattle.access.specs.{Changing.unchanged_content, Points.{AccessRules, content_of, Point}}
use Rattle.machine.specs.{Settings.Settings, Stages.{Stage, EditRests, StandsOn}, Hearing.Input, Hearing.Input.{Whole, Broken}}
use Rattle.machine.specs.{Answers.{Verdict, Effect, Answer, Step, content_after}, Machine.{InputStep, MachineEdit, JudgedEdit, CommitStep, CloseStep}}
use Rattle.machine.specs.Machine.{CommandStep, EditingStep, ending_of, commit_ask, release_fails, CommittedStep}
use Rattle.machine.specs.{Answers.Verdict.{Written, NotWritten, Unknown}, Steps.{StepAt, AddsAll, Stores, EffectAt}}
use Rattle.machine.specs.{declared.commit_parameters.CommitParameters.CommitParameters, declared.env.Env.Env, declared.ending.Ending.Ending}
use Rattle.machine.specs.declared.ending.Ending.TheVariants.{Commits as ToCommit, GivesUp}
use Rattle.machine.specs.declared.phase.Phase.TheVariants.{Greeted, LoggingIn, Challenged, Serving, Editing, Skipping, Reporting, Driven, Ended}
use Rattle.machine.specs.declared.phase.Client.{Client}
use Rattle.machine.proofs.Quiet.{HasNewEdit, IsQuiet, quiet_input}

-- ---- beginnings

pub begins : (xs : List Revision) → IsBeginning xs xs
begins xs = record { more = []; is = sym (append-nil xs) }

pub beginning_trans : (a b c : List Revision) → IsBeginning a b → IsBeginning b c → IsBeginning a c
beginning_trans a b c x y = record { more = x.more ++ y.more; is = y.is ∙ ap (λ z. z ++ y.more) x.is ∙ append_assoc a x.more y.more }

rests_in_trans : (o : Option TxnState) (c d : RepoState) → RestsIn o c → IsBeginning c.revisions d.revisions → RestsIn o d
rests_in_trans None c d r b = tt
rests_in_trans (Some t) c d r b = beginning_trans t.shown c.revisions d.revisions r b

pub edit_rests : (e : EditState) (c d : RepoState) → RestsOn e c → IsBeginning c.revisions d.revisions → RestsOn e d
edit_rests e c d r b = rests_in_trans e.txn c d r b

rests_trans : (phase : Stage) (c d : RepoState) → EditRests phase c → IsBeginning c.revisions d.revisions → EditRests phase d
rests_trans Greeted c d r b = tt
rests_trans (LoggingIn login) c d r b = tt
rests_trans (Challenged pending) c d r b = tt
rests_trans (Serving client) c d r b = tt
rests_trans (Editing edit) c d r b = edit_rests edit.editor c d r b
rests_trans (Skipping client) c d r b = tt
rests_trans (Reporting reporting) c d r b = tt
rests_trans (Driven client) c d r b = tt
rests_trans Ended c d r b = tt

-- ---- the answers

rests_is : (c : RepoState) (a b : Answer) → a ≡ b → EditRests b.phase c → EditRests a.phase c
rests_is c a b e r = subst (λ (x : Answer). EditRests x.phase c) (sym e) r

-- an edit of which nothing has been made has seen nothing yet
rests_new : (s : Settings) (phase : Stage) (c : RepoState) → HasNewEdit s phase → EditRests phase c
rests_new s Greeted c new = tt
rests_new s (LoggingIn login) c new = tt
rests_new s (Challenged pending) c new = tt
rests_new s (Serving client) c new = tt
rests_new s (Editing edit) c new = subst (λ (e : EditState). RestsOn e c) (sym new) tt
rests_new s (Skipping client) c new = tt
rests_new s (Reporting reporting) c new = tt
rests_new s (Driven client) c new = tt
rests_new s Ended c new = tt

-- ---- the steps of an edit

-- a transaction that was last shown the repository's revisions
rests_shown : (c : RepoState) (t : TxnState) → t.shown ≡ c.revisions → RestsIn (Some t) c
rests_shown c t e = record { more = []; is = sym e ∙ sym (append-nil t.shown) }

rests_at : (c : RepoState) (e : EditState) (o : Option TxnState) → e.txn ≡ o → RestsIn o c → RestsOn e c
rests_at c e o is r = subst (λ (x : Option TxnState). RestsIn x c) (sym is) r

-- an edit that is as it was
rests_same : (c : RepoState) (old new : EditState) → RestsOn old c → new ≡ old → RestsOn new c
rests_same c old new r is = subst (λ (e : EditState). RestsOn e c) (sym is) r

-- an edit with other tokens
rests_opened : (c : RepoState) (old new : EditState) (tokens : Tokens) → RestsOn old c → new ≡ record old { tokens = tokens } → RestsOn new c
rests_opened c old new tokens r is = rests_at c new old.txn (ap (λ (e : EditState). e.txn) is) r

-- an edit whose transaction is edited
rests_edited : (c : RepoState) (old new : EditState) (op : EditOp) (tokens : Tokens) → EditsTxn c old op tokens new → RestsOn new c
rests_edited c old new op tokens h = rests_at c new (Some h.after) (ap (λ (e : EditState). e.txn) h.is) (rests_shown c h.after h.edited.shown_now)

rests_applied : (known : Type 0) (c : RepoState) (old new : EditState) (command : EditorCommand) → RestsOn old c → Applies known c old command new → RestsOn new c
rests_applied known c old new (TargetRevision revision) r is = rests_same c old new r is
rests_applied known c old new (OpenRoot revision token) r h = rests_at c new (Some h.txn) (ap (λ (e : EditState). e.txn) h.is) (rests_shown c h.txn h.begun.shown)
rests_applied known c old new (DeleteEntry entry) r (p, named, h) = rests_edited c old new _ _ h
rests_applied known c old new (AddDirectory entry) r h = rests_edited c old new _ _ h.edits
rests_applied known c old new (AddFile entry) r h = rests_edited c old new _ _ h.edits
rests_applied known c old new (OpenDirectory entry) r (p, named, is) = rests_opened c old new _ r is
rests_applied known c old new (OpenFile entry) r (p, named, is) = rests_opened c old new _ r is
rests_applied known c old new (AbsentDirectory entry) r is = rests_same c old new r is
rests_applied known c old new (AbsentFile entry) r is = rests_same c old new r is
rests_applied known c old new (ChangeDirectoryProperty change) r (opened, under, h) = rests_edited c old new _ _ h
rests_applied known c old new (ChangeFileProperty change) r (opened, under, h) = rests_edited c old new _ _ h
rests_applied known c old new (ApplyTextDelta token checksum) r (opened, under, (base, read, is)) = rests_opened c old new _ r is
rests_applied known c old new (TextDeltaChunk token bytes) r (p, a, under, is) = rests_opened c old new _ r is
rests_applied known c old new (TextDeltaEnd token) r (p, a, under, (text, ended, h)) = rests_edited c old new _ _ h
rests_applied known c old new (CloseDirectory token) r is = rests_opened c old new _ r is
rests_applied known c old new (CloseFile token checksum) r is = rests_opened c old new _ r is
rests_applied known c old new CloseEdit r h = absurd h
rests_applied known c old new AbortEdit r h = absurd h

rests_edits : (known : Type 0) (env : Env) (c : RepoState) (edit : MachineEdit) (command : EditorCommand) (r : Option Refusal) (a : Answer)
    → RestsOn edit.editor c → JudgedEdit known env c edit command r a → EditRests a.phase c
rests_edits known env c edit command None a rests (after, applies, is) = rests_is c a _ is (rests_applied known c edit.editor after command rests applies)
rests_edits known env c edit command (Some r) a rests is = rests_is c a _ is tt

rests_made : (c : RepoState) (client : Client) (fails : Bool) → EditRests (if fails then Ended else Serving client) c
rests_made c client true = tt
rests_made c client false = tt

rests_committed : (env : Env) (c : RepoState) (client : Client) (ask : CommitAsk) (t : TxnState) (v : Verdict) (a : Answer)
    → CommittedStep env c client ask t v a → EditRests a.phase c
rests_committed env c client ask t Written a (release, wanted, is) = rests_is c a _ is (rests_made c client (release_fails release))
rests_committed env c client ask t NotWritten a is = rests_is c a _ is tt
rests_committed env c client ask t (Unknown x) a is = rests_is c a _ is.1 tt

rests_commit : (halted : Bool) (env : Env) (c : RepoState) (client : Client) (ask : CommitAsk) (t : TxnState)
    (r : Option Refusal) (a : Answer) → CommitStep halted env c client ask t r a → EditRests a.phase c
rests_commit true env c client ask t r a is = rests_is c a _ is tt
rests_commit false env c client ask t (Some r) a (path, at, is) = rests_is c a _ is tt
rests_commit false env c client ask t None a (v, step) = rests_committed env c client ask t v a step

rests_close : (halted : Bool) (env : Env) (c : RepoState) (client : Client) (asked : CommitParameters) (r : Result TxnState Refusal) (a : Answer)
    → CloseStep env client asked r halted c a → EditRests a.phase c
rests_close halted env c client asked (Ok t) a (date, is_date, step) =
    rests_commit halted env c client (commit_ask client asked date) t (commit_refusal c (commit_ask client asked date) t) a step
rests_close halted env c client asked (Err r) a is = rests_is c a _ is tt

rests_told : (known : Type 0) (halted : Bool) (env : Env) (c : RepoState) (edit : MachineEdit) (command : EditorCommand) (ending : Option Ending) (a : Answer)
    → RestsOn edit.editor c → CommandStep known env edit command ending halted c a → EditRests a.phase c
rests_told known halted env c edit command None a rests step = rests_edits known env c edit command (edit_refusal c edit.editor command) a rests step
rests_told known halted env c edit command (Some ToCommit) a rests step = rests_close halted env c edit.client edit.asked (finished edit.editor) a step
rests_told known halted env c edit command (Some GivesUp) a rests is = rests_is c a _ is tt

rests_editing : (known : Type 0) (halted : Bool) (env : Env) (c : RepoState) (edit : MachineEdit) (r : Result EditorCommand CommandFault) (a : Answer)
    → RestsOn edit.editor c → EditingStep known env edit r halted c a → EditRests a.phase c
rests_editing known halted env c edit (Ok command) a rests step = rests_told known halted env c edit command (ending_of command) a rests step
rests_editing known halted env c edit (Err UnknownName) a rests is = rests_is c a _ is tt
rests_editing known halted env c edit (Err BadParameters) a rests is = rests_is c a _ is tt
rests_editing known halted env c edit (Err NoMemory) a rests is = rests_is c a _ is tt

-- ---- an input

rests_quiet : (s : Settings) (c : RepoState) (a : Answer) → IsQuiet s a → EditRests a.phase c
rests_quiet s c a quiet = rests_new s a.phase c quiet.new

rests_step : (halted : Bool) (s : Settings) (env : Env) (c : RepoState) (phase : Stage) (input : Input) (a : Answer) → EditRests phase c → InputStep s env
    phase input halted c a → EditRests a.phase c
rests_step halted s env c Greeted (Whole t) a rests step = rests_quiet s c a (quiet_input s halted env c Greeted (Whole t) a (λ h. h) step)
rests_step halted s env c (LoggingIn login) (Whole t) a rests step = rests_quiet s c a (quiet_input s halted env c (LoggingIn login) (Whole t) a (λ h. h) step)
rests_step halted s env c (Challenged pending) (Whole t) a rests step = rests_quiet s c a (quiet_input s halted env c (Challenged pending) (Whole t) a (λ h. h) step)
rests_step halted s env c (Serving client) (Whole t) a rests step = rests_quiet s c a (quiet_input s halted env c (Serving client) (Whole t) a (λ h. h) step)
rests_step halted s env c (Skipping client) (Whole t) a rests step = rests_quiet s c a (quiet_input s halted env c (Skipping client) (Whole t) a (λ h. h) step)
rests_step halted s env c (Reporting reporting) (Whole t) a rests step = rests_quiet s c a (quiet_input s halted env c (Reporting reporting) (Whole t) a (λ h. h) step)
rests_step halted s env c (Driven client) (Whole t) a rests step = rests_quiet s c a (quiet_input s halted env c (Driven client) (Whole t) a (λ h. h) step)
rests_step halted s env c (Editing edit) (Whole t) a rests step = rests_editing (Unit {0}) halted env c edit (editor_command t) a rests step
rests_step halted s env c Greeted Broken a rests step = rests_quiet s c a (quiet_input s halted env c Greeted Broken a (λ h. h) step)
rests_step halted s env c (LoggingIn login) Broken a rests step = rests_quiet s c a (quiet_input s halted env c (LoggingIn login) Broken a (λ h. h) step)
rests_step halted s env c (Challenged pending) Broken a rests step = rests_quiet s c a (quiet_input s halted env c (Challenged pending) Broken a (λ h. h) step)
rests_step halted s env c (Serving client) Broken a rests step = rests_quiet s c a (quiet_input s halted env c (Serving client) Broken a (λ h. h) step)
rests_step halted s env c (Skipping client) Broken a rests step = rests_quiet s c a (quiet_input s halted env c (Skipping client) Broken a (λ h. h) step)
rests_step halted s env c (Reporting reporting) Broken a rests step = rests_quiet s c a (quiet_input s halted env c (Reporting reporting) Broken a (λ h. h) step)
rests_step halted s env c (Driven client) Broken a rests step = rests_quiet s c a (quiet_input s halted env c (Driven client) Broken a (λ h. h) step)
rests_step halted s env c (Editing edit) Broken a rests step = rests_quiet s c a (quiet_input s halted env c (Editing edit) Broken a (λ h. h) step)
rests_step halted s env c Ended input a rests step = rests_is c a _ step tt

change_keeps : (c : RepoState) (e : Accepted) → IsBeginning c.revisions (changed c e).revisions
change_keeps c (Commits ask t) = record { more = _; is = refl }
change_keeps c (Locks ask) = begins c.revisions
change_keeps c (ChangesProperty ask) = begins c.revisions
change_keeps c (Unlocks ask) = begins c.revisions
change_keeps c (Releases user tokens) = begins c.revisions

changes_keep : (c : RepoState) (es : List Accepted) → IsBeginning c.revisions (changed_all c es).revisions
changes_keep c [] = begins c.revisions
changes_keep c (e ∷ es) = beginning_trans c.revisions (changed c e).revisions (changed_all (changed c e) es).revisions (change_keeps c e) (changes_keep (changed c e) es)

pub rests_on : (halted : Bool) (s : Settings) (env : Env) (c : RepoState) (phase : Stage) (input : Input) (a : Answer) → EditRests phase c → InputStep s env
    phase input halted c a → EditRests a.phase (content_after c a.effect)
rests_on halted s env c phase input a rests step = rests_trans a.phase c (content_after c a.effect) (rests_step halted s env c phase input a rests step) (changes_keep c a.effect.changes)

-- whatever was read for a text
pub rests_read : (halted : Bool) (env : Env) (c : RepoState) (edit : MachineEdit) (r : Result EditorCommand CommandFault) (a : Answer) → RestsOn edit.editor c
    → EditingStep ⊥ env edit r halted c a → EditRests a.phase (content_after c a.effect)
rests_read halted env c edit r a rests step =
    rests_trans a.phase c (content_after c a.effect) (rests_editing ⊥ halted env c edit r a rests step) (changes_keep c a.effect.changes)

module _ (rules : AccessRules)
    (keeps : (p q : Point) → rules.between p q → IsBeginning (content_of p).revisions (content_of q).revisions)
    (counts : (p : Point) (e : Accepted) (q : Point) → rules.adds p e q → (content_of q ≡ changed (content_of p) e) × (q.halted ≡ p.halted) × (q.failures ≡ p.failures) × (q.pending ≡ p.pending)) where
  added : (p : Point) (es : List Accepted) (q : Point) → AddsAll rules p es q → content_of q ≡ changed_all (content_of p) es
  added p [] q is = ap content_of is
  added p (e ∷ es) q (mid, first, rest) = added mid es q rest ∙ ap (λ (c : RepoState). changed_all c es) (counts p e mid first).0

  stored : (v : Verdict) (p q : Point) → Stores v p q → content_of q ≡ content_of p
  stored Written p q is = ap content_of is
  stored NotWritten p q failed = unchanged_content p q failed.same
  stored (Unknown e) p q halt = unchanged_content p q halt.same

  pub moved : (p : Point) (e : Effect) (q : Point) → EffectAt rules p e q → content_of q ≡ content_after (content_of p) e
  moved p e q (mid, adds, stores) = stored e.store mid q stores ∙ added p e.changes mid adds

  -- what exists stays
  pub grown : (step : Step) (p q : Point) (a : Answer) → StepAt rules step p a q → IsBeginning (content_of p).revisions (content_of q).revisions
  grown step p q a h =
      beginning_trans (content_of p).revisions (content_of h.at).revisions (content_of q).revisions (keeps p h.at h.later)
      (subst (λ (c : RepoState). IsBeginning (content_of h.at).revisions c.revisions) (sym (moved h.at a.effect q h.moves)) (changes_keep (content_of h.at) a.effect.changes))

  -- a session goes on to rest on what is there, as others go on too
  module _ (sound : (p q : Point) → rules.between p q → AreSound (content_of p).revisions → AreSound (content_of q).revisions) where
    rests_later : (phase : Stage) (p q : Point) → rules.between p q → StandsOn phase (content_of p) → StandsOn phase (content_of q)
    rests_later phase p q later h = record {
      trees = sound p q later h.trees;
      rests = rests_trans phase (content_of p) (content_of q) h.rests (keeps p q later);
      sound = h.sound;
    }

    -- after a step that keeps what a session stands on
    pub stands_after : (step : Step) (p q : Point) (phase : Stage) (a : Answer)
        → ((at : Point) → StandsOn phase (content_of at) → step at.halted (content_of at) a → StandsOn a.phase (content_after (content_of at) a.effect))
        → StepAt rules step p a q → StandsOn phase (content_of p) → StandsOn a.phase (content_of q)
    stands_after step p q phase a keeps_it h rests =
        let here = keeps_it h.at (rests_later phase p h.at h.later rests) h.step_is in
        subst (λ (c : RepoState). StandsOn a.phase c) (sym (moved h.at a.effect q h.moves)) here

pub edit_rests_later : (rules : AccessRules) → ((p q : Point) → rules.between p q → IsBeginning (content_of p).revisions (content_of q).revisions)
    → (e : EditState) (p q : Point) → RestsOn e (content_of p) → rules.between p q → RestsOn e (content_of q)
edit_rests_later rules keeps e p q rests later = edit_rests e (content_of p) (content_of q) rests (keeps p q later)
