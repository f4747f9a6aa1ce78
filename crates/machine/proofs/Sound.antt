-- A session's edit stays sound, and the repository's trees stay trees.
use Rattle.std.proofs.Common.{◌≡◌, ◌<◌, ◌+◌, ℕ, zero, suc, List, [], ◌∷◌, ◌++◌, length, Bool, true, false, Option, Some, None, refl, sym, ap, subst, arith}
use Rattle.std.proofs.Common.{length-append, ◌∙◌}
use Rattle.std.specs.{Prelude.{Result, Ok, Err, if◌then◌else◌, IsSomeAnd, IsTrue}, FinMap.{get, get-empty}}
use Rattle.svnpath.specs.Paths.{path_cmp, PathValue}
use Rattle.refusals.specs.declared.Refusal.{Refusal}
use Rattle.refusals.specs.declared.Refusal.TheVariants as refusals
use Rattle.repo_api.specs.{Accepted.{Accepted, changed, changed_all}, Accepted.Accepted.{ChangesProperty, Commits, Locks, Releases, Unlocks}}
use Rattle.repo_api.specs.{Commits.{commit_refusal, committed, next_tree}, Marks.{AreMarked, MeetWell}, Soundness.{AreSound, AreTrees}}
use Rattle.repo_api.specs.{States.{IsBeginning, RepoState, Revision, tree_in, tree_of, trees_in, TxnState, youngest}, Transactions.IsMarkedTxn}
use Rattle.repo_api.specs.{Trees.{is_directory, IsTree}, declared.entry.Entry.Entry, declared.ask.CommitAsk.CommitAsk}
use Rattle.wire_edits.specs.{Editing.editor_command, declared.editing.EditorCommand.EditorCommand}
use Rattle.wire_forms.specs.{declared.fault.CommandFault.CommandFault, declared.fault.CommandFault.TheVariants.{UnknownName, BadParameters, NoMemory}}
use Rattle.edit_rules.specs.{Editor.{Applies, applies_weaker, finished, finished_txn, RestsIn, RestsOn}, Edits.{EditState, new_edit}, Refusing.edit_refusal}
use Rattle.edit_rules.specs.{Soundness.{IsSoundEdit, IsSoundIn}, Tokens.{has_unfinished, Tokens}}
use Rattle.machine.specs.{Settings.Settings, Stages.{Stage, EditRests, EditIsSound, StandsOn}, Soundness.MeetBy, Hearing.Input, Hearing.Input.{Whole, Broken}}
use Rattle.machine.specs.{Answers.{Verdict, Answer, content_after}, Machine.{InputStep, UnreleasedStep, MachineEdit, JudgedEdit, CommitStep, CloseStep}}
use Rattle.machine.specs.Machine.{UnreleasedClose, CommandStep, EditingStep, ending_of, commit_ask, Release, release_effect, release_fails, made_answer}
use Rattle.machine.specs.{Machine.{unreleased_answer, CommittedStep}, Machine.Release.{Stays, Released, NotReleased, InDoubt}}
use Rattle.machine.specs.{Answers.Verdict.{Written, NotWritten, Unknown}, declared.commit_parameters.CommitParameters.CommitParameters, declared.env.Env.Env}
use Rattle.machine.specs.{declared.ending.Ending.Ending, declared.ending.Ending.TheVariants.{Commits as ToCommit, GivesUp}}
use Rattle.machine.specs.declared.phase.Phase.TheVariants.{Greeted, LoggingIn, Challenged, Serving, Editing, Skipping, Reporting, Driven, Ended}
use Rattle.machine.specs.declared.phase.Client.{Client}
use Rattle.machine.proofs.{Quiet.{HasNewEdit, KeepRevisions, IsQuiet, quiet_input}, Resting.{rests_on, rests_read}}

trees_more : (rs : List Revision) (r : Revision) → AreTrees rs → IsTree (tree_of r.tree) → AreTrees (rs ++ r ∷ [])
trees_more [] r trees one = (one, tt)
trees_more (x ∷ rs) r trees one = (trees.0, trees_more rs r trees.1 one)

-- the transaction that is answered where a text delta halted not have ended
finished_is_it : (unfinished : Bool) (u t : TxnState) → ◌≡◌ {A = Result TxnState Refusal} (if unfinished then Err refusals.MalformedData else Ok u) (Ok t) → u ≡ t
finished_is_it true u t is = cc
finished_is_it false u t is = cc

-- the transaction that is to be committed is the edit's
finished_is : (refused : Bool) (o : Option TxnState) (tokens : Tokens) (t : TxnState) → ◌≡◌ {A = Result TxnState Refusal} (if refused then Err refusals.EditAborted else finished_txn tokens o) (Ok t) → o ≡ Some t
finished_is true o tokens t is = cc
finished_is false None tokens t is = cc
finished_is false (Some u) tokens t is = ap (λ (x : TxnState). Some x) (finished_is_it (has_unfinished tokens) u t is)

-- the transaction that a sound edit ends with is sound
pub finished_sound : (e : EditState) (t : TxnState) → IsSoundEdit e → finished e ≡ Ok t → IsSoundIn e.path (Some t) e.tokens
finished_sound e t sound is = subst (λ (o : Option TxnState). IsSoundIn e.path o e.tokens) (finished_is e.refused e.txn e.tokens t is) sound

-- and it has seen what its edit has
pub finished_rests : (c : RepoState) (e : EditState) (t : TxnState) → RestsOn e c → finished e ≡ Ok t → IsBeginning t.shown c.revisions
finished_rests c e t rests is = subst (λ (o : Option TxnState). RestsIn o c) (finished_is e.refused e.txn e.tokens t is) rests

tree_within : (rs : List Revision) (n : ℕ) → AreTrees rs → n < length rs → IsTree (trees_in rs n)
tree_within [] n trees lt = absurd (omega (arith, lt))
tree_within (r ∷ rs) zero trees lt = trees.0
tree_within (r ∷ rs) (suc n) trees lt = tree_within rs n trees.1 (omega (arith, lt))

no_directory : (o : Option Entry) → o ≡ None → IsSomeAnd o (λ e. IsTrue (is_directory e)) → ⊥
no_directory o none dir = subst (λ (x : Option Entry). IsSomeAnd x (λ e. IsTrue (is_directory e))) none dir

within_some : (rs : List Revision) (n : ℕ) → IsTree (trees_in rs n) → n < length rs
within_some [] n is = absurd (no_directory (get (tree_in None) []) (get-empty path_cmp []) is.root)
within_some (r ∷ rs) zero is = omega arith
within_some (r ∷ rs) (suc n) is = let lt : n < length rs = within_some rs n is in omega (arith, lt)

-- the youngest revision's tree is a tree, where a transaction began at all
youngest_tree : (c : RepoState) (t : TxnState) → AreTrees c.revisions → IsBeginning t.shown c.revisions → IsMarkedTxn t → IsTree (trees_in c.revisions (youngest c))
youngest_tree c t trees b m =
    let lt : t.base < length t.shown = within_some t.shown t.base m.base_tree in
    let more : length c.revisions ≡ length t.shown + length b.more = ap length b.is ∙ length-append t.shown b.more in
    tree_within c.revisions (youngest c) trees (omega (arith, lt, more))

-- after an answer the repository's trees are trees, and the session's edit is sound
abbrev pub LeavesTrees : RepoState → Answer → Type 0
LeavesTrees c a = AreSound (content_after c a.effect).revisions × EditIsSound a.phase × MeetBy c a.effect.changes

leaves_is : (c : RepoState) (a b : Answer) → a ≡ b → LeavesTrees c b → LeavesTrees c a
leaves_is c a b e r = subst (λ (x : Answer). LeavesTrees c x) (sym e) r

-- changes that keep the revisions leave the trees as they are
kept_leave : (c : RepoState) (es : List Accepted) → KeepRevisions es → AreSound c.revisions → AreSound (changed_all c es).revisions × MeetBy c es
kept_leave c [] of trees = (trees, tt)
kept_leave c (Commits ask t ∷ es) (of, more) trees = cc
kept_leave c (ChangesProperty ask ∷ es) (of, more) trees =
    let left = kept_leave (changed c (ChangesProperty ask)) es more trees in (left.0, (tt, left.1))
kept_leave c (Locks ask ∷ es) (of, more) trees = let left = kept_leave (changed c (Locks ask)) es more trees in (left.0, (tt, left.1))
kept_leave c (Unlocks ask ∷ es) (of, more) trees = let left = kept_leave (changed c (Unlocks ask)) es more trees in (left.0, (tt, left.1))
kept_leave c (Releases user tokens ∷ es) (of, more) trees =
    let left = kept_leave (changed c (Releases user tokens)) es more trees in (left.0, (tt, left.1))

-- a release keeps the revisions
release_keeps : (ask : CommitAsk) (release : Release) → KeepRevisions (release_effect ask release).changes
release_keeps ask Stays = tt
release_keeps ask Released = (refl, tt)
release_keeps ask NotReleased = tt
release_keeps ask InDoubt = tt

sound_made : (client : Client) (fails : Bool) → EditIsSound (if fails then Ended else Serving client)
sound_made client true = tt
sound_made client false = tt

module _ (begins : (path : PathValue) (name : List ℕ) (is_of_today : Bool) → IsSoundEdit (new_edit path name is_of_today))
    (goes_on : (c : RepoState) (old new : EditState) (command : EditorCommand) → AreSound c.revisions → RestsOn old c → IsSoundEdit old → edit_refusal c old command ≡ None → Applies ⊥ c old command new → IsSoundEdit new)
    (meets : (c : RepoState) (ask : CommitAsk) (t : TxnState) → AreMarked (trees_in c.revisions) → IsTree (trees_in c.revisions (youngest c))
    → IsBeginning t.shown c.revisions → IsMarkedTxn t → IsTree (tree_of t.tree)
    → commit_refusal c ask t ≡ None → MeetWell (trees_in c.revisions) t.base (tree_of t.tree) (youngest c))
    (makes_tree : (c : RepoState) (t : TxnState) → MeetWell (trees_in c.revisions) t.base (tree_of t.tree) (youngest c) → IsTree (tree_of (next_tree c t)))
    (makes_marks : (c : RepoState) (ask : CommitAsk) (t : TxnState) → MeetWell (trees_in c.revisions) t.base (tree_of t.tree) (youngest c) → AreMarked (trees_in (committed c ask t).revisions)) where
  -- an edit of which nothing has been made is sound
  sound_new : (s : Settings) (phase : Stage) → HasNewEdit s phase → EditIsSound phase
  sound_new s Greeted new = tt
  sound_new s (LoggingIn login) new = tt
  sound_new s (Challenged pending) new = tt
  sound_new s (Serving client) new = tt
  sound_new s (Editing edit) new = subst IsSoundEdit (sym new) (begins edit.client.path s.name edit.client.is_of_today)
  sound_new s (Skipping client) new = tt
  sound_new s (Reporting reporting) new = tt
  sound_new s (Driven client) new = tt
  sound_new s Ended new = tt

  leaves_quiet : (c : RepoState) (s : Settings) (a : Answer) → AreSound c.revisions → IsQuiet s a → LeavesTrees c a
  leaves_quiet c s a trees quiet =
      let left = kept_leave c a.effect.changes quiet.kept trees in
      (left.0, sound_new s a.phase quiet.new, left.1)

  leaves_edits : (known : Type 0) (env : Env) (c : RepoState) (edit : MachineEdit) (command : EditorCommand) (r : Option Refusal) (a : Answer)
      → AreSound c.revisions → RestsOn edit.editor c → IsSoundEdit edit.editor → edit_refusal c edit.editor command ≡ r → JudgedEdit known env c edit command r a → LeavesTrees c a
  leaves_edits known env c edit command None a trees rests sound judged (after, applies, is) = leaves_is c a _ is (trees, goes_on c edit.editor after command trees rests sound judged (applies_weaker (λ none. absurd none) c edit.editor command after applies), tt)
  leaves_edits known env c edit command (Some r) a trees rests sound judged is = leaves_is c a _ is (trees, tt, tt)

  leaves_made : (env : Env) (c : RepoState) (client : Client) (ask : CommitAsk) (t : TxnState) (release : Release)
      → AreSound c.revisions → MeetWell (trees_in c.revisions) t.base (tree_of t.tree) (youngest c) → LeavesTrees c (made_answer env c client ask t release)
  leaves_made env c client ask t release trees w =
      let freed = release_effect ask release in
      let left = kept_leave (committed c ask t) freed.changes (release_keeps ask release)
      (trees_more c.revisions _ trees.0 (makes_tree c t w), makes_marks c ask t w) in
      (left.0, sound_made client (release_fails release), (w, left.1))

  leaves_committed : (env : Env) (c : RepoState) (client : Client) (ask : CommitAsk) (t : TxnState) (v : Verdict) (a : Answer)
      → AreSound c.revisions → MeetWell (trees_in c.revisions) t.base (tree_of t.tree) (youngest c) → CommittedStep env c client ask t v a → LeavesTrees c a
  leaves_committed env c client ask t Written a trees w (release, wanted, is) = leaves_is c a _ is (leaves_made env c client ask t release trees w)
  leaves_committed env c client ask t NotWritten a trees w is = leaves_is c a _ is (trees, tt, tt)
  leaves_committed env c client ask t (Unknown x) a trees w is = leaves_is c a _ is.1 (trees, tt, tt)

  leaves_commit : (halted : Bool) (env : Env) (c : RepoState) (client : Client) (ask : CommitAsk) (t : TxnState) (r : Option Refusal) (a : Answer)
      → AreSound c.revisions → (r ≡ None → MeetWell (trees_in c.revisions) t.base (tree_of t.tree) (youngest c))
      → CommitStep halted env c client ask t r a → LeavesTrees c a
  leaves_commit true env c client ask t r a trees met is = leaves_is c a _ is (trees, tt, tt)
  leaves_commit false env c client ask t (Some r) a trees met (path, at, is) = leaves_is c a _ is (trees, tt, tt)
  leaves_commit false env c client ask t None a trees met (v, step) = leaves_committed env c client ask t v a trees (met refl) step

  -- the transaction that an edit ends with meets the youngest revision well
  ends_well : (c : RepoState) (edit : EditState) (ask : CommitAsk) (t : TxnState) → AreSound c.revisions → RestsOn edit c → IsSoundEdit edit → finished edit ≡ Ok t
      → commit_refusal c ask t ≡ None → MeetWell (trees_in c.revisions) t.base (tree_of t.tree) (youngest c)
  ends_well c edit ask t trees rests sound is accepted =
      let s = finished_sound edit t sound is in
      let b = finished_rests c edit t rests is in
      meets c ask t trees.1 (youngest_tree c t trees.0 b s.2) b s.2 s.0 accepted

  leaves_close : (halted : Bool) (env : Env) (c : RepoState) (client : Client) (asked : CommitParameters) (edit : EditState) (r : Result TxnState Refusal) (a : Answer)
      → AreSound c.revisions → RestsOn edit c → IsSoundEdit edit → finished edit ≡ r → CloseStep env client asked r halted c a → LeavesTrees c a
  leaves_close halted env c client asked edit (Ok t) a trees rests sound is (date, is_date, step) =
      let ask = commit_ask client asked date in
      leaves_commit halted env c client ask t (commit_refusal c ask t) a trees (ends_well c edit ask t trees rests sound is) step
  leaves_close halted env c client asked edit (Err r) a trees rests sound is step = leaves_is c a _ step (trees, tt, tt)

  -- a commit whose session is gone before the release
  leaves_unreleased : (halted : Bool) (env : Env) (c : RepoState) (client : Client) (asked : CommitParameters) (edit : EditState) (a : Answer)
      → AreSound c.revisions → RestsOn edit c → IsSoundEdit edit → UnreleasedClose env client asked (finished edit) halted c a → LeavesTrees c a
  leaves_unreleased halted env c client asked edit a trees rests sound u =
      let ask = commit_ask client asked u.date in
      let w = ends_well c edit ask u.txn trees rests sound u.txn_is u.accepted in
      leaves_is c a (unreleased_answer env ask u.txn) u.is
      ((trees_more c.revisions _ trees.0 (makes_tree c u.txn w), makes_marks c ask u.txn w), tt, (w, tt))

  leaves_told : (known : Type 0) (halted : Bool) (env : Env) (c : RepoState) (edit : MachineEdit) (command : EditorCommand) (ending : Option Ending) (a : Answer)
      → AreSound c.revisions → RestsOn edit.editor c → IsSoundEdit edit.editor → CommandStep known env edit command ending halted c a → LeavesTrees c a
  leaves_told known halted env c edit command None a trees rests sound step = leaves_edits known env c edit command (edit_refusal c edit.editor command) a trees rests sound refl step
  leaves_told known halted env c edit command (Some ToCommit) a trees rests sound step = leaves_close halted env c edit.client edit.asked edit.editor (finished edit.editor) a trees rests sound refl step
  leaves_told known halted env c edit command (Some GivesUp) a trees rests sound is = leaves_is c a _ is (trees, tt, tt)

  leaves_editing : (known : Type 0) (halted : Bool) (env : Env) (c : RepoState) (edit : MachineEdit) (r : Result EditorCommand CommandFault) (a : Answer)
      → AreSound c.revisions → RestsOn edit.editor c → IsSoundEdit edit.editor → EditingStep known env edit r halted c a → LeavesTrees c a
  leaves_editing known halted env c edit (Ok command) a trees rests sound step = leaves_told known halted env c edit command (ending_of command) a trees rests sound step
  leaves_editing known halted env c edit (Err UnknownName) a trees rests sound is = leaves_is c a _ is (trees, tt, tt)
  leaves_editing known halted env c edit (Err BadParameters) a trees rests sound is = leaves_is c a _ is (trees, tt, tt)
  leaves_editing known halted env c edit (Err NoMemory) a trees rests sound is = leaves_is c a _ is (trees, tt, tt)

  leaves_trees : (halted : Bool) (s : Settings) (env : Env) (c : RepoState) (phase : Stage) (input : Input) (a : Answer)
      → AreSound c.revisions → EditRests phase c → EditIsSound phase → InputStep s env phase input halted c a → LeavesTrees c a
  leaves_trees halted s env c Greeted (Whole t) a trees rests sound step = leaves_quiet c s a trees (quiet_input s halted env c Greeted (Whole t) a (λ h. h) step)
  leaves_trees halted s env c (LoggingIn login) (Whole t) a trees rests sound step = leaves_quiet c s a trees (quiet_input s halted env c (LoggingIn login) (Whole t) a (λ h. h) step)
  leaves_trees halted s env c (Challenged pending) (Whole t) a trees rests sound step = leaves_quiet c s a trees (quiet_input s halted env c (Challenged pending) (Whole t) a (λ h. h) step)
  leaves_trees halted s env c (Serving client) (Whole t) a trees rests sound step = leaves_quiet c s a trees (quiet_input s halted env c (Serving client) (Whole t) a (λ h. h) step)
  leaves_trees halted s env c (Skipping client) (Whole t) a trees rests sound step = leaves_quiet c s a trees (quiet_input s halted env c (Skipping client) (Whole t) a (λ h. h) step)
  leaves_trees halted s env c (Reporting reporting) (Whole t) a trees rests sound step = leaves_quiet c s a trees (quiet_input s halted env c (Reporting reporting) (Whole t) a (λ h. h) step)
  leaves_trees halted s env c (Driven client) (Whole t) a trees rests sound step = leaves_quiet c s a trees (quiet_input s halted env c (Driven client) (Whole t) a (λ h. h) step)
  leaves_trees halted s env c (Editing edit) (Whole t) a trees rests sound step = leaves_editing (Unit {0}) halted env c edit (editor_command t) a trees rests sound step
  leaves_trees halted s env c Greeted Broken a trees rests sound step = leaves_quiet c s a trees (quiet_input s halted env c Greeted Broken a (λ h. h) step)
  leaves_trees halted s env c (LoggingIn login) Broken a trees rests sound step = leaves_quiet c s a trees (quiet_input s halted env c (LoggingIn login) Broken a (λ h. h) step)
  leaves_trees halted s env c (Challenged pending) Broken a trees rests sound step = leaves_quiet c s a trees (quiet_input s halted env c (Challenged pending) Broken a (λ h. h) step)
  leaves_trees halted s env c (Serving client) Broken a trees rests sound step = leaves_quiet c s a trees (quiet_input s halted env c (Serving client) Broken a (λ h. h) step)
  leaves_trees halted s env c (Skipping client) Broken a trees rests sound step = leaves_quiet c s a trees (quiet_input s halted env c (Skipping client) Broken a (λ h. h) step)
  leaves_trees halted s env c (Reporting reporting) Broken a trees rests sound step = leaves_quiet c s a trees (quiet_input s halted env c (Reporting reporting) Broken a (λ h. h) step)
  leaves_trees halted s env c (Driven client) Broken a trees rests sound step = leaves_quiet c s a trees (quiet_input s halted env c (Driven client) Broken a (λ h. h) step)
  leaves_trees halted s env c (Editing edit) Broken a trees rests sound step = leaves_quiet c s a trees (quiet_input s halted env c (Editing edit) Broken a (λ h. h) step)
  leaves_trees halted s env c Ended input a trees rests sound is = leaves_is c a _ is (trees, tt, tt)

  pub keeps_rests : (halted : Bool) (s : Settings) (env : Env) (c : RepoState) (phase : Stage) (input : Input) (a : Answer)
      → StandsOn phase c → InputStep s env phase input halted c a
      → StandsOn a.phase (content_after c a.effect) × MeetBy c a.effect.changes
  keeps_rests halted s env c phase input a h step =
      let kept = leaves_trees halted s env c phase input a h.trees h.rests h.sound step in
      (record { trees = kept.0; rests = rests_on halted s env c phase input a h.rests step; sound = kept.1 }, kept.2)

  -- whatever was read for a text
  pub keeps_editing : (halted : Bool) (env : Env) (c : RepoState) (edit : MachineEdit) (r : Result EditorCommand CommandFault) (a : Answer)
      → StandsOn (Editing edit) c → EditingStep ⊥ env edit r halted c a
      → StandsOn a.phase (content_after c a.effect) × MeetBy c a.effect.changes
  keeps_editing halted env c edit r a h step =
      let kept = leaves_editing ⊥ halted env c edit r a h.trees h.rests h.sound step in
      (record { trees = kept.0; rests = rests_read halted env c edit r a h.rests step; sound = kept.1 }, kept.2)

  pub keeps_unreleased : (halted : Bool) (env : Env) (c : RepoState) (phase : Stage) (input : Input) (a : Answer)
      → StandsOn phase c → UnreleasedStep env phase input halted c a
      → StandsOn a.phase (content_after c a.effect) × MeetBy c a.effect.changes
  keeps_unreleased halted env c (Editing edit) (Whole t) a h (ends, step) =
      let kept = leaves_unreleased halted env c edit.client edit.asked edit.editor a h.trees h.rests h.sound step in
      let over : a.phase ≡ Ended = ap (λ (x : Answer). x.phase) step.is in
      (record { trees = kept.0; rests = subst (λ (x : Stage). EditRests x (content_after c a.effect)) (sym over) tt; sound = kept.1 }, kept.2)
  keeps_unreleased halted env c (Editing edit) Broken a h step = absurd step
  keeps_unreleased halted env c Greeted input a h step = absurd step
  keeps_unreleased halted env c (LoggingIn login) input a h step = absurd step
  keeps_unreleased halted env c (Challenged pending) input a h step = absurd step
  keeps_unreleased halted env c (Serving client) input a h step = absurd step
  keeps_unreleased halted env c (Skipping client) input a h step = absurd step
  keeps_unreleased halted env c (Reporting reporting) input a h step = absurd step
  keeps_unreleased halted env c (Driven client) input a h step = absurd step
  keeps_unreleased halted env c Ended input a h step = absurd step
